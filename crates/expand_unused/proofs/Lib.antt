pub mod Adding
pub mod Finding
pub mod Fitting
pub mod Levels
pub mod Rows
pub mod Stepping
