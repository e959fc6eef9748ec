pub mod BindRounds
pub mod Binds
pub mod EndSteps
mod FragmentRows
pub mod GrammarTaken
pub mod GroupSteps
pub mod LeafSteps
pub mod Marking
pub mod Results
mod Rows
