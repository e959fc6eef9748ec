-- What may come behind the variables of a pattern.
pub mod Allowed
pub mod Following
pub mod Judging
pub mod Pieces
pub mod Tokens
