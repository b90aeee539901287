pub mod Reading
pub mod Sizes
pub mod Tables
pub mod Cleared
