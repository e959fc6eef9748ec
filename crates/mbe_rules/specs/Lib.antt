-- What a macro is, how trees spell it, what is wrong with one, and what it expands an input to.
pub mod ArmFaults
pub mod ArmSpelling
pub mod Arms
pub mod Arrows
pub mod Expansions
-- What a template is, how trees spell it, what is wrong with it, and what it becomes.
pub mod Counting
pub mod Enclosing
pub mod Faults
pub mod Limits
pub mod Marks
pub mod Parts
pub mod Results
pub mod Rounds
pub mod Spelling
pub mod SpellingFaults
pub mod Filling
pub mod Stepping
pub mod Templates
pub mod Transcribing
pub mod Validating
pub mod Waiting
pub mod Wholes
pub mod Working
pub mod Writing
