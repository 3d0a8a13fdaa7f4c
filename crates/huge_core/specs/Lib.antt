pub mod ByHand
pub mod Huge
pub mod Reserving
