pub mod Alone
pub mod ByHand
pub mod Calls
pub mod Claims
pub mod Clearing
pub mod Coming
pub mod Emptying
pub mod Ending
mod Evacuated
mod Evacuating
mod HalvedRuns
mod HandingOut
mod InTurn
mod LowestFree
mod MadeAs
mod MaximalRuns
pub mod Moves
mod NextIn
mod OneThread
pub mod Packed
pub mod Records
mod Picking
pub mod RoundsKept
pub mod Same
pub mod Scanner
pub mod Scanning
pub mod Seated
mod Sending
pub mod StaysBooked
pub mod Steps
mod Stepping
mod WordsAtOnce
