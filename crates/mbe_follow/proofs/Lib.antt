-- Proofs of this crate.
pub mod CrateFirst
pub mod Cutting
pub mod Judged
pub mod Refusing
pub mod Rows
