pub mod Held
pub mod Lends
pub mod Owned
pub mod Parts
pub mod Seen
