pub mod Check
pub mod Arrive
pub mod Step
