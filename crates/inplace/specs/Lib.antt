pub mod Arrive
pub mod Step
pub mod Run
