mod BlankFrames
pub mod Bounds
pub mod Each
pub mod Ends
mod FlatRows
mod FrameSets
mod LentFrames
pub mod Lists
pub mod Maps
pub mod OnTheWay
pub mod Searches
