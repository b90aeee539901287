pub mod Struct
pub mod Lent
pub mod Exports
