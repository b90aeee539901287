pub mod Runs
pub mod Serving
pub mod Demands
