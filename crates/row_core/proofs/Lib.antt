pub mod Agree
pub mod Crosses
pub mod Lists
pub mod Lodging
pub mod Sharing
pub mod Vectors
pub mod Walks
pub mod Words
