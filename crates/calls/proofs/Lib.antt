pub mod Answering
pub mod Refining
