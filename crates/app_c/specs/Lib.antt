-- What callers in other languages get back.
pub mod Answers
pub mod Bytes
pub mod Conditions
pub mod ExpandedTexts
pub mod Expanding
pub mod Failures
pub mod Faults
pub mod Listings
pub mod Texts
pub mod Tokens
