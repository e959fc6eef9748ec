-- Which names an expansion that is written as text would capture.
pub mod Binders
pub mod Captures
pub mod Given
pub mod Mentions
pub mod Walks
