-- What a text means as token trees, and why a text is refused.
pub mod Bracket
pub mod Doc
pub mod Escapes
pub mod Faults
pub mod Inside
pub mod Limits
pub mod LiteralText
pub mod Refusal
pub mod Parsed
pub mod Pieces
pub mod RawLiteral
pub mod RawName
pub mod Role
pub mod Scanned
pub mod Spelled
