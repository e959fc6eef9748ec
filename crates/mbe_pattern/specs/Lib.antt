-- What a pattern is, how trees spell it, and what is wrong with it.
pub mod Dollars
pub mod Faults
pub mod Patterns
pub mod Placed
pub mod Spelling
pub mod Units
pub mod Validating
