-- What the program writes of the macros of a text.
pub mod Counts
pub mod Messages
pub mod Notes
pub mod Reports
