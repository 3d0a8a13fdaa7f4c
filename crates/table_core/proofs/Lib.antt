mod Blank
mod Counting
pub mod Listing
mod Passing
pub mod Places
pub mod Rising
mod Shifting
mod Walking
mod Writing
