mod Arguments
pub mod CallsAccepted
pub mod ClientAnswers
pub mod CommandsInRange
pub mod CountsAdded
mod EitherAnswer
mod Endings
pub mod Following
mod Found
pub mod LockStep
pub mod MachineByHand
pub mod Machines
pub mod Matching
pub mod PagesMoved
pub mod PoolSteps
pub mod Pools
pub mod Replies
pub mod Rounds
pub mod RoundsByHand
pub mod Runs
pub mod RunsAs
pub mod Steps
pub mod ThreadedRuns
pub mod ValuesStored
mod Whole
pub mod Worlds
