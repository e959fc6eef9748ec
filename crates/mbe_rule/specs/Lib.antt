-- What a rule is, what its faults are, when trees are an instance of its pattern, and what it makes of them.
pub mod DollarsLeft
pub mod Expansions
pub mod Faults
pub mod Instances
pub mod Matching
pub mod RuleOf
pub mod Transcribing
pub mod Variables
