pub mod CopyRoom
pub mod CopySteps
pub mod EachEnd
pub mod HandedOver
pub mod Hands
pub mod Messages
pub mod PageSteps
pub mod Serials
mod Steps
pub mod Totals
