pub mod Parts
pub mod Chunks
