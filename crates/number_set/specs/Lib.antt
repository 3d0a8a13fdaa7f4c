pub mod Bits
pub mod Finds
pub mod Levels
pub mod Numbers
pub mod Runs
