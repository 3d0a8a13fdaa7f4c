pub mod Stepping
pub mod Taking
