pub mod Keeping
pub mod Fresh
pub mod Parts
pub mod Opening
pub mod Moving
pub mod Arriving
