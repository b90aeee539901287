pub mod Works
pub mod Crews
pub mod Seeking
pub mod Turns
pub mod Entering
pub mod Rows
pub mod Ready
