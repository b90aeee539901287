pub mod Decimals
pub mod Records
pub mod Readback
pub mod Lines
pub mod Pens
