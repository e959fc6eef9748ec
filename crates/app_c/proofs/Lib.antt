-- Lemmas of the library for other languages, and what its definitions compute.
mod ConditionRows
pub mod Expanded
pub mod Listed
mod ListingRows
pub mod Results
pub mod Said
pub mod Seen
mod TokenRows
pub mod Written
