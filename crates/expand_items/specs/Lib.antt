-- Items and statements under conditions.
-- What comes among siblings, as far as macros need it.
-- Conditions, and what is known of them.
pub mod Attributes
pub mod Cfg
pub mod Checking
pub mod Conditions
pub mod Definitions
pub mod Expressions
pub mod Fronts
pub mod Inactive
pub mod Items
pub mod Loosening
pub mod MacroRulesItems
pub mod Operands
pub mod Parts
pub mod Positions
pub mod Predicates
pub mod Spreads
