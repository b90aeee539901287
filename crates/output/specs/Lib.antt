pub mod Course
pub mod Output
pub mod Figures
pub mod Sentences
