-- A buffer filled from its end: what it owns, and what contracts see.
pub mod Bytes
pub mod Ownership
