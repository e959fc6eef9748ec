-- Laws of numbers of uses.
pub mod UseNumbers
