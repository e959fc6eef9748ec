-- Lemmas on characters, places, marks and widths.
pub mod CharFacts
pub mod MarkFacts
pub mod PlaceFacts
mod ShownRows
pub mod WidthFacts
pub mod WindowFacts
