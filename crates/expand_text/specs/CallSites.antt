-- How the expansion of a call is in its place.
use Rattle.std.specs.Prelude.{◌≡◌, ◌⊎◌, ℕ, zero, suc, Bool, true, false, Option, None, Some}
use Rattle.tt.specs.Forest.{Forest}
use Rattle.tt.specs.Stored.{IsWithinLimits}
use Rattle.tt.specs.Types.Delimiter.{Delimiter}
use Rattle.expand_items.specs.Spreads.{AreUnder}
use Rattle.expand_text.specs.declared.fault.MacroFault.{MacroFault}
use Rattle.expand_text.specs.declared.fault.MacroFault.TheVariants as wrong
use Rattle.expand_text.specs.Macros.{IsTooLargeTree, IsUnwritten, tree_of}
use Rattle.expand_text.specs.Outcomes.{placed}
use Rattle.expand_items.specs.Attributes.{conditions_of}
use Rattle.expand_items.specs.declared.expression.Enclosure.{Enclosure}
use Rattle.expand_items.specs.declared.position.Position.{Position}
use Rattle.expand_items.specs.Loosening.{loosened, place_of}

-- the place of a call: the attributes before it and their number of trees (none if it is no statement or item); how its expansion is enclosed;
-- the position before the first tree of its expansion; and its delimiter
pub record CallSite : Type 0 where
  pub attributes : Forest
  pub len : ℕ
  pub enclosure : Enclosure
  pub position : Position
  pub delimiter : Delimiter

-- an expansion in its place: enclosed, or under the conditions of the call, if possible
abbrev pub PutUnder : (attributes : ℕ) → CallSite → (trees : Forest) → (put : Option Forest) → Type 0
PutUnder zero it trees put = put ≡ placed it.enclosure it.delimiter trees
PutUnder (suc more) it trees put = IsWithinLimits (tree_of it.delimiter trees) × AreUnder it.position.siblings it.delimiter (conditions_of it.attributes) trees put

abbrev pub PutAs : CallSite → (trees : Forest) → (put : Option Forest) → Type 0
PutAs it trees put = PutUnder it.len it trees put

-- what an expansion in its place is then: in the text, it is a tree within the limits, and keeps only the parentheses that it needs
abbrev pub IsShown : (in_text : Bool) → CallSite → (put shown : Forest) → Type 0
IsShown false it put shown = shown ≡ put
IsShown true it put shown = IsWithinLimits (tree_of it.delimiter put) × (shown ≡ loosened (place_of it.enclosure it.position) put)

-- these trees take the place of a call with that expansion
abbrev pub PutIn : (in_text : Bool) → CallSite → (trees shown : Forest) → Type 0
PutIn in_text it trees shown = (put : Forest) × PutAs it trees (Some put) × IsShown in_text it put shown

-- the expansion of a call with attributes exceeds a limit as a tree
abbrev pub IsTooLarge : (attributes : ℕ) → CallSite → (trees : Forest) → MacroFault → Type 0
IsTooLarge zero it trees fault = ⊥
IsTooLarge (suc more) it trees fault = IsTooLargeTree it.delimiter trees fault

-- why an expansion does not fit its place: it is statements, and one expression is wanted there; or the conditions of the call cannot be put
-- before its parts; or it exceeds a limit as a tree
abbrev pub misfit : (attributes : ℕ) → MacroFault
misfit zero = wrong.Statements
misfit (suc more) = wrong.Conditional

abbrev pub IsMisplaced : CallSite → (trees : Forest) → MacroFault → Type 0
IsMisplaced it trees fault = ((fault ≡ misfit it.len) × PutAs it trees None) ⊎ IsTooLarge it.len it trees fault

-- why the expansion of a call that begins at a byte is not written, and its byte: in its place it exceeds a limit as a tree, which shows at
-- the beginning of the call; or what is shown of it is not written
abbrev pub IsUnshown : CallSite → (trees : Forest) → (begin at : ℕ) → MacroFault → Type 0
IsUnshown it trees begin at fault =
    ((put : Forest) × PutAs it trees (Some put) × IsTooLargeTree it.delimiter put fault × (at ≡ begin))
    ⊎ ((shown : Forest) × PutIn true it trees shown × IsUnwritten it.delimiter shown begin at fault)

-- why a call with that expansion stays, and its byte: the expansion does not fit its place, which shows at the beginning of the call; or it
-- does, but is not written in the text
abbrev pub IsKept : (in_text : Bool) → CallSite → (trees : Forest) → (begin at : ℕ) → MacroFault → Type 0
IsKept in_text it trees begin at fault = (IsMisplaced it trees fault × (at ≡ begin)) ⊎ ((in_text ≡ true) × IsUnshown it trees begin at fault)
