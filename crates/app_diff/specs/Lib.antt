-- How two texts differ.
pub mod Hunks
