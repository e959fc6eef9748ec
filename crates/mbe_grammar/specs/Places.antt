-- What a place of the machine is.
use Rattle.std.specs.Prelude.{◌≡◌, ◌<◌, ℕ, List, length, map}
use Rattle.tt.specs.Forest.{Forest}
use Rattle.tt.specs.Gluing.{after_trees}
use Rattle.tt.specs.Views.{trees_of}
use Rattle.mbe_grammar.specs.declared.entry.Entry.{Entry as Noted}
use Rattle.mbe_grammar.specs.declared.entry.Entry.TheVariants as noted
use Rattle.mbe_grammar.specs.declared.units.Units.{Units}
use Rattle.mbe_grammar.specs.Kinds.{kind_of}
use Rattle.mbe_grammar.specs.Positions.{Entry, Position, enters, leaves, takes_unit, holds}
use Rattle.mbe_grammar.specs.Units.{first_unit}

-- the entry of the log
abbrev pub entry : Noted → Entry
entry (noted.Enter name) = enters name
entry noted.Leave = leaves
entry (noted.Unit count) = takes_unit count
entry (noted.Holds trees close name) = holds (trees_of trees) close name

-- the place after that many of these trees, with this log
abbrev pub position_of : (trees : Forest) → (log : List Noted) → (passed : ℕ) → Position
position_of trees log passed = record { passed = passed; rest = after_trees passed trees; log = map entry log }

-- the trees whose units these are
abbrev pub trees_in : Units → Forest
trees_in units = trees_of units.trees

-- the unit after that many trees was decoded, and its kind is at hand
abbrev pub IsDecoded : Units → (passed : ℕ) → Type 0
IsDecoded units passed = (passed < length units.reached.items) × (units.kind ≡ kind_of (first_unit (after_trees passed (trees_in units))))
