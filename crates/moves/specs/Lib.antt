pub mod Whole
pub mod Fresh
