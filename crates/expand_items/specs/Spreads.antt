-- Parts under conditions.
use Rattle.std.specs.Prelude.{◌≡◌, ◌⊎◌, ◌<◌, ℕ, zero, suc, Bool, true, false, List, [], ◌∷◌, Option, None, Some, is_some}
use Rattle.tt.specs.Building.{Stack, append, most_held, tokens_held}
use Rattle.tt.specs.Forest.{Forest, end, node, join}
use Rattle.tt.specs.Gluing.{after_trees}
use Rattle.tt.specs.Token.{delimiter}
use Rattle.tt.specs.Types.Delimiter.{Delimiter}
use Rattle.tt.specs.Types.DelimiterKind.TheVariants.{Brace}
use Rattle.tt.specs.Types.TtFault.{TtFault}
use Rattle.tt.specs.Types.TtFault.TheVariants as limit
use Rattle.expand_items.specs.declared.part.Part.{Part}
use Rattle.expand_items.specs.Parts.{AreParts}
use Rattle.expand_items.specs.declared.position.Siblings.{Siblings}
use Rattle.mbe_pattern.specs.Units.{front_trees}

-- a part: an expression goes into braces, so that a condition before it holds for all of it
abbrev pub put_part : (braces : Delimiter) → (is_expression : Bool) → Forest → Forest
put_part braces true trees = node (delimiter Brace braces.open_span braces.close) trees end
put_part braces false trees = trees

-- what precedes the part of a number: conditions, but nothing before the first
abbrev pub before : (conditions : Forest) → (place : ℕ) → Forest
before conditions zero = end
before conditions (suc place) = conditions

-- the parts from that of a number on, with the conditions before each
abbrev pub spread : (braces : Delimiter) → (conditions : Forest) → (place : ℕ) → List Part → Forest → Forest
spread braces conditions place [] trees = end
spread braces conditions place (part ∷ parts) trees =
    join (before conditions place)
    (join (put_part braces part.is_expression (front_trees part.len trees)) (spread braces conditions (suc place) parts (after_trees part.len trees)))

-- all parts, if trees are split into some
abbrev pub spread_if : (braces : Delimiter) → (conditions : Forest) → Option (List Part) → Forest → Option Forest
spread_if braces conditions None trees = None
spread_if braces conditions (Some []) trees = None
spread_if braces conditions (Some (part ∷ parts)) trees = Some (spread braces conditions 0 (part ∷ parts) trees)

-- sibling trees are put under conditions, which already precede the first of them; or this is impossible
abbrev pub AreUnder : Siblings → (braces : Delimiter) → (conditions trees : Forest) → (put : Option Forest) → Type 0
AreUnder its braces conditions trees put = (parts : Option (List Part)) × AreParts its trees parts × (put ≡ spread_if braces conditions parts trees)

-- trees are appended, if there are any
abbrev pub append_if : Option Forest → Stack → Stack
append_if None stack = stack
append_if (Some trees) stack = append trees stack

-- why a builder does not come to hold a stack: memory runs out, or the stack holds too many tokens
abbrev pub IsWanting : Stack → TtFault → Type 0
IsWanting whole fault = (fault ≡ limit.Memory) ⊎ ((fault ≡ limit.TooManyTokens) × (most_held < tokens_held whole))

-- why trees are not put under conditions: memory runs out, or with all parts the builder would hold too many tokens
abbrev pub IsNotPut : Siblings → (braces : Delimiter) → (conditions trees : Forest) → Stack → TtFault → Type 0
IsNotPut its braces conditions trees stack fault =
    (fault ≡ limit.Memory)
    ⊎ ((put : Forest) × AreUnder its braces conditions trees (Some put) × (fault ≡ limit.TooManyTokens) × (most_held < tokens_held (append put stack)))

-- these trees are added, or nothing is
pub record IsPutUnder (its : Siblings) (braces : Delimiter) (conditions trees : Forest) (is_put : Bool) (old new : Stack) : Type 0 where
  pub put : Option Forest
  pub under : AreUnder its braces conditions trees put
  pub answer : is_put ≡ is_some put
  pub added : new ≡ append_if put old
