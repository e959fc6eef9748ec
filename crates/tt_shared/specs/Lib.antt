-- A value with several owners: what contracts see, and what an owner has.
pub mod Counting
pub mod Shared
