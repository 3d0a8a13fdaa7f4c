pub mod Boxed
pub mod Either
pub mod LentMoves
pub mod Turns
pub mod Walks
