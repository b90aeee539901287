pub mod Tests
pub mod Sums
pub mod Bytes
pub mod Times
pub mod Ranges
