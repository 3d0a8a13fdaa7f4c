pub mod Searches
pub mod Taking
