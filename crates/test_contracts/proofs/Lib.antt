pub mod Cuts
pub mod Passing
