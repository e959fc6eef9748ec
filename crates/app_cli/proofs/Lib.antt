-- The line about diagnostics that are not shown, the calls around a place, and rows.
pub mod MoreText
mod NoteRows
pub mod Trails
