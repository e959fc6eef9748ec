-- What the callers count, find and expand.
pub mod Arms
pub mod Commas
pub mod Macros
pub mod Names
pub mod ViewTrees
