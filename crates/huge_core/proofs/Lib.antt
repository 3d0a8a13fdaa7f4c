pub mod ByHand
pub mod Refused
pub mod Running
pub mod SameByHand
pub mod StoppedByHand
