-- When trees are an instance of a pattern, what they bind, and what fragments take.
pub mod Binders
pub mod Bindings
pub mod Ends
pub mod Finding
pub mod Fragments
pub mod Fronts
pub mod GrammarReach
pub mod Grouping
pub mod Labels
pub mod Marks
pub mod Parts
pub mod Places
pub mod Readings
pub mod Waiting
