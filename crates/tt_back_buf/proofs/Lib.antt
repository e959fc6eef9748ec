pub mod RegionSteps
pub mod Words
