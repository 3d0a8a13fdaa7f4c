pub mod Claims
pub mod Evacuation
pub mod Example
pub mod FewestMoves
pub mod Reservation
pub mod Sending
