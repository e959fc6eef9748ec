pub mod BlockSteps
pub mod CountedSteps
pub mod FirstOwner
pub mod Marks
pub mod OneValue
pub mod OwnersLent
pub mod ThreadToken
