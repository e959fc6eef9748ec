-- The line and column of a byte of a text, and the diagnostics for it.
pub mod Diagnostic
pub mod Level
pub mod Mark
pub mod Marks
pub mod Paint
pub mod Place
pub mod Source
pub mod Spot
pub mod Window
