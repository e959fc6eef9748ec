-- What is left of a walk and of the tokens of a text, and rows.
pub mod LimitAhead
mod Rows
pub mod TokensLeft
