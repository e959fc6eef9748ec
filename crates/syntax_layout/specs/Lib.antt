-- A text with other gaps between its tokens, and the gaps that rustfmt would choose.
pub mod Documented
pub mod Gap
pub mod Layout
pub mod Parts
pub mod Passed
pub mod Spaces
