pub mod Checking
pub mod Agreeing
pub mod Arrivals
pub mod Moves
pub mod OneByOne
