-- Tokens in numbers, and their bytes.
pub mod Entry
pub mod Header
pub mod Kinds
pub mod Leaf
pub mod Overwriting
pub mod Read
pub mod Reference
pub mod SpanNumbers
