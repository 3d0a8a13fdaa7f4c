pub mod Bulk
pub mod Calls
pub mod Errors
pub mod Receipts
pub mod Settling
