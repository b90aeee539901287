pub mod Rows
pub mod Order
pub mod Tabled
pub mod Lent
