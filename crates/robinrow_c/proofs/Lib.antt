pub mod Struct
pub mod Exports
pub mod Refusals
pub mod InC
pub mod Rules
