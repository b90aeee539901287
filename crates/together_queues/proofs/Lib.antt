pub mod Bounds
pub mod Meeting
pub mod Entries
pub mod Planes
pub mod Slots
