-- What a text needs of the macros that it defines, and the text without the others.
pub mod Needing
pub mod Parts
pub mod Places
pub mod Steps
pub mod Waiting
pub mod Without
