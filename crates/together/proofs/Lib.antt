pub mod Tables
pub mod Amounts
pub mod Seats
pub mod Clauses
pub mod Holding
pub mod Bounds
pub mod Deciding
