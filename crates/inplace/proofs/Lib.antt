pub mod Answering
pub mod RunSteps
pub mod RunLoop
pub mod Table
pub mod Places
