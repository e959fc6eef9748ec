-- The two tables, tokens in numbers under them, and what is stored for a tree.
pub mod AstIds
pub mod Cost
pub mod Counts
pub mod Entering
pub mod Meaning
pub mod NextToken
pub mod PackFault
pub mod Searches
pub mod Shortest
pub mod Stored
pub mod TableOrder
pub mod Tables
pub mod TablesOf
pub mod Uses
-- The meaning of tokens that name values by places.
pub mod Alone
pub mod Counted
pub mod Held
pub mod HeldCode
pub mod Interned
pub mod ListOf
pub mod Missing
pub mod Names
pub mod OneNode
pub mod OneList
pub mod OneToken
-- Different values at places, and their numbers of uses.
pub mod Entries
pub mod Interner
-- Tokens in twelve bytes.
pub mod OnePart
pub mod OneSmall
pub mod SmallHeld
pub mod SmallMeaning
