pub mod Work
pub mod Machine
pub mod View
pub mod Sound
pub mod Fit
pub mod Lent
