pub mod ByteRows
pub mod EntryReading
pub mod Found
pub mod HeaderReading
mod HeaderRows
pub mod LeafReading
pub mod Overwriting
pub mod ReadAgain
pub mod ReferenceReading
pub mod SpanReading
