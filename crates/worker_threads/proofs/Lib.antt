pub mod ByHand
pub mod Called
pub mod KeptFacts
pub mod Meeting
pub mod Places
pub mod Rooms
pub mod Steps
