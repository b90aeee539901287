pub mod Folds
pub mod Bounds
pub mod Tables
pub mod Rows
pub mod Orders
pub mod Front
