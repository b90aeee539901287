pub mod Lent
pub mod Held
pub mod Made
