pub mod Clauses
pub mod Holds
