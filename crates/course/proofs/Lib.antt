pub mod Sizes
pub mod Places
pub mod Falling
pub mod Turning
pub mod Following
pub mod Owing
pub mod Making
pub mod Cases
