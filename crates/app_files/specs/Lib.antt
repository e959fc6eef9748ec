-- What the program reads in a text beside its macros, and how it words a message.
pub mod Plain
pub mod RecursionLimit
pub mod TokenWords
