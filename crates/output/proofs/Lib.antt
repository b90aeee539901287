pub mod Computed
pub mod Reaching
pub mod Cutting
pub mod Printing
pub mod Figures
pub mod Sentences
