-- A text with replaced parts, and where its trees lie in it.
pub mod Laid
pub mod Lines
pub mod Places
pub mod Texts
-- Trees that were read, and whether they can be written.
pub mod Whole
-- What may change after a token, and how a text with trees spliced in is read.
pub mod Calls
pub mod Kept
pub mod Splices
