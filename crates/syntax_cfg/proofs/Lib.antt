-- Lemmas on names, and what the definitions compute.
pub mod NameFacts
mod Rows
