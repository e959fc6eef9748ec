-- The first token of a text: its kind, and the rest after it.
pub mod Class
pub mod Closing
pub mod Comments
pub mod Ends
pub mod Front
pub mod Grammar
pub mod Literals
pub mod Number
pub mod Opening
pub mod Quoted
pub mod Reading
pub mod Stop
pub mod Tokens
pub mod Word
-- What may follow a token.
pub mod Clear
pub mod Stops
