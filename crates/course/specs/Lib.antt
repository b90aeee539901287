pub mod Turns
pub mod Moves
pub mod Owed
