pub mod Appending
mod BuildingRows
pub mod CutLists
mod DebugRows
mod EditRows
mod ElementRows
pub mod EndPieces
pub mod Equality
pub mod Gluing
pub mod HashInputs
pub mod Indents
pub mod Joins
pub mod LeafSets
pub mod LeafTexts
pub mod Literals
pub mod Moves
pub mod Pointwise
pub mod Ranges
mod Rows
pub mod SameTree
pub mod Samples
mod ScanRows
pub mod SpanTexts
pub mod Walks
pub mod WholeLists
