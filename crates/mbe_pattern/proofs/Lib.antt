pub mod FirstSteps
pub mod FirstTrees
pub mod GluedSizes
pub mod Passing
pub mod Plain
pub mod Rows
pub mod UnitLengths
pub mod ValidateSteps
