-- Places among trees, and how a unit is taken there.
use Rattle.std.specs.Prelude.{◌+◌, ◌++◌, ◌==◌, ℕ, suc, Bool, true, false, List, [], ◌∷◌, length, take, Option, None, Some, if◌then◌else◌}
use Rattle.tt.specs.Forest.{Forest, end, leaf, node}
use Rattle.tt.specs.Gluing.{after_trees}
use Rattle.tt.specs.Types.Span.{Span}
use Rattle.mbe_grammar.specs.declared.test.Test.{Test}
use Rattle.mbe_grammar.specs.Tests.{named, passes, taken_size}
use Rattle.mbe_grammar.specs.Units.{first_unit}

-- an entry of the log: the expression of a name begins, or ends; a unit of that many trees was taken; a subtree was taken, with
-- the span of its closing delimiter, and its trees must be the expression of that name. A name is the index of its expression in the table
pub data Entry : Type 0 where
  enters : (name : ℕ) → Entry
  leaves : Entry
  takes_unit : (count : ℕ) → Entry
  holds : (trees : Forest) → (close : Span) → (name : ℕ) → Entry

-- a place among trees: how many trees were passed, those that are left, and the log of what was taken
pub record Position : Type 0 where
  pub passed : ℕ
  pub rest : Forest
  pub log : List Entry

-- the place before all of these trees
abbrev pub first_position : Forest → Position
first_position trees = record { passed = 0; rest = trees; log = [] }

-- the same place with an empty log
abbrev pub plain : Position → Position
plain from = record { passed = from.passed; rest = from.rest; log = [] }

-- the place after that many more trees
abbrev pub behind : (count : ℕ) → Position → Position
behind count from = record { passed = from.passed + count; rest = after_trees count from.rest; log = from.log }

-- the same place with these entries more in the log, if entries are noted
abbrev pub noted : (noting : Bool) → List Entry → Position → Position
noted true more to = record { passed = to.passed; rest = to.rest; log = to.log ++ more }
noted false more to = to

-- the entry of a unit of that many trees, for a test with that name
abbrev pub entry_of : (name : Option ℕ) → (count : ℕ) → Forest → Entry
entry_of None count trees = takes_unit count
entry_of (Some name) count end = takes_unit count
entry_of (Some name) count (leaf it rest) = takes_unit count
entry_of (Some name) count (node delimiter children rest) = holds children delimiter.close name

-- how many trees the test takes there, if the first unit passes it
abbrev pub count_of : Test → Forest → ℕ
count_of wanted trees = taken_size wanted (first_unit trees)

-- the place after the first unit, with its entry in the log
abbrev pub taken : (noting : Bool) → Test → Position → Position
taken noting wanted from = noted noting (entry_of (named wanted) (count_of wanted from.rest) from.rest ∷ []) (behind (count_of wanted from.rest) from)

-- that place, if the first unit passes the test
abbrev pub takes : (noting : Bool) → Test → Position → Option Position
takes noting wanted from = if passes wanted (first_unit from.rest) then Some (taken noting wanted from) else None

-- the place where the expression of a name begins
abbrev pub opened : (noting : Bool) → (name : ℕ) → Position → Position
opened noting name from = noted noting (enters name ∷ []) from

-- the same place, with the first entries of its log only
abbrev pub cut : (since : ℕ) → Position → Position
cut since to = record { passed = to.passed; rest = to.rest; log = take since to.log }

-- the place where the expression of a name ends; the log had that length before it began. A name that took nothing leaves no entry
abbrev pub closed : (noting : Bool) → (since : ℕ) → Position → Position
closed true since to = if length to.log == suc since then cut since to else noted true (leaves ∷ []) to
closed false since to = to
