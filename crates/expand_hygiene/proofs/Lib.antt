pub mod Noting
mod Rows
pub mod Walking
