pub mod Tables
pub mod Admit
pub mod Lent
