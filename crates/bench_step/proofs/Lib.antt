pub mod Doing
pub mod Making
