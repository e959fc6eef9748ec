-- The text of token trees, and which trees have one.
pub mod Marks
pub mod Text
pub mod Writable
pub mod Writing
pub mod Settled
pub mod Displayed
