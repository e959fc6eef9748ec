pub mod Ahead
mod AstIdRows
pub mod Cheapest
mod CostRows
pub mod Different
pub mod Entering
pub mod Finding
pub mod Found
pub mod HeaderFirst
pub mod IdsStored
pub mod Known
pub mod Lengths
pub mod Limits
pub mod Lookups
pub mod Members
mod MoveRows
pub mod Naming
pub mod Positions
pub mod Renaming
pub mod Respanned
pub mod Shortest
mod ShortestRows
pub mod StoredAlike
mod StoredRows
pub mod StoredTables
pub mod TableOrder
mod TableRows
pub mod TableUnique
pub mod TokenTables
pub mod TopSet
pub mod TreesAlike
pub mod Used
-- Laws of tokens that name values.
pub mod Changing
pub mod Growing
mod MissingRows
pub mod PlacesKept
pub mod OneNode
pub mod Opening
pub mod Ordering
pub mod Packing
pub mod Standing
pub mod Taking
pub mod Using
-- Laws of numbers of uses, and of values at places.
pub mod Interned
pub mod Places
pub mod UseCounts
-- Laws of tokens in twelve bytes.
pub mod SmallClosing
pub mod SmallHeld
pub mod SmallRead
