-- A pattern whose `$` have their places, and how trees spell it.
use Rattle.std.specs.Prelude.{◌-◌, ℕ, zero, suc, Bool, true, false, List, [], ◌∷◌, Option, None, Some, codes, if◌then◌else◌}
use Rattle.tt.specs.Expectations.{first_leaf_as, as_ident_or_underscore}
use Rattle.tt.specs.Forest.{Forest, end, leaf, node, size}
use Rattle.tt.specs.Moves.{after_tree}
use Rattle.tt.specs.Types.DelimiterKind.{DelimiterKind}
use Rattle.tt.specs.Types.Ident.{Ident}
use Rattle.tt.specs.Types.Leaf.{Leaf}
use Rattle.mbe_pattern.specs.declared.error.PatternError.{PatternError}
use Rattle.mbe_pattern.specs.declared.error.PatternError.TheVariants as error
use Rattle.mbe_pattern.specs.declared.pattern.RepeatKind.{RepeatKind}
use Rattle.mbe_pattern.specs.declared.pattern.Variable.{Variable}
use Rattle.mbe_pattern.specs.Patterns.{Pattern}
use Rattle.mbe_pattern.specs.Patterns as pattern
use Rattle.mbe_pattern.specs.Spelling.{Dollar, is_dollar, dollar_in, dollar_length}
use Rattle.mbe_pattern.specs.Spelling as dollar
use Rattle.mbe_pattern.specs.Units.{is_at_punct, unit_from, first_unit}

-- a pattern in which variables and repetitions have the flat place of their `$`, and a `$` that begins nothing says what is wrong
pub data Placed : Type 0 where
  nothing : Placed
  variable : (at : ℕ) → Variable → Placed → Placed
  wrong : PatternError → Leaf → Placed → Placed
  token : List Leaf → Placed → Placed
  subtree : DelimiterKind → Placed → Placed → Placed
  repetition : (at : ℕ) → Placed → (separator : List Leaf) → RepeatKind → Placed → Placed

-- the pattern without places; a `$` that begins nothing is a literal token
abbrev pub plain : Placed → Pattern
plain nothing = pattern.nothing
plain (variable at it others) = pattern.variable it (plain others)
plain (wrong why it others) = pattern.token (it ∷ []) (plain others)
plain (token its others) = pattern.token its (plain others)
plain (subtree kind inner others) = pattern.subtree kind (plain inner) (plain others)
plain (repetition at inner separator op others) = pattern.repetition (plain inner) separator op (plain others)

-- what the first part holds
abbrev pub inner_part : Placed → Placed
inner_part nothing = nothing
inner_part (variable at it others) = nothing
inner_part (wrong why it others) = nothing
inner_part (token its others) = nothing
inner_part (subtree kind inner others) = inner
inner_part (repetition at inner separator op others) = inner

-- what is wrong with a `$` at that place that begins nothing: a name, a colon and an ident follow that names no
-- fragment; otherwise it begins nothing
abbrev pub fault_from : (at : ℕ) → (name : Option Ident) → (colon : Bool) → (fragment : Option Ident) → PatternError
fault_from at None colon fragment = error.BeginsNothing at
fault_from at (Some it) false fragment = error.BeginsNothing at
fault_from at (Some it) true None = error.BeginsNothing at
fault_from at (Some it) true (Some word) = error.UnknownFragment at

-- what is wrong with a `$` at that place that begins nothing, before these siblings
abbrev pub fault_in : (at : ℕ) → Forest → PatternError
fault_in at siblings =
    fault_from at (first_leaf_as as_ident_or_underscore siblings) (is_at_punct (codes ":") (after_tree siblings))
    (first_leaf_as as_ident_or_underscore (after_tree (after_tree siblings)))

-- the part that a `$` at that place begins, before these siblings
abbrev pub part_of : (at : ℕ) → Leaf → Dollar → (siblings : Forest) → (held others : Placed) → Placed
part_of at it (dollar.variable found) siblings held others = variable at found others
part_of at it (dollar.repetition tail) siblings held others = repetition at held tail.separator tail.kind others
part_of at it dollar.token siblings held others = token (it ∷ []) others
part_of at it dollar.nothing siblings held others = wrong (fault_in at siblings) it others

-- the pattern that trees spell after the first `passed` of them, which belong to an earlier part; `until`
-- is the flat place after the last tree
abbrev pub placed_behind : (until : ℕ) → (passed : ℕ) → Forest → Placed
placed_behind until passed end = nothing
placed_behind until zero (leaf it rest) =
    if is_dollar it
    then part_of (until - size (leaf it rest)) it (dollar_in rest) rest (inner_part (placed_behind until zero rest)) (placed_behind until (dollar_length (dollar_in rest)) rest)
    else token (first_unit (leaf it rest)) (placed_behind until (unit_from it rest - 1) rest)
placed_behind until zero (node delimiter children rest) = subtree delimiter.kind (placed_behind (until - size rest) zero children) (placed_behind until zero rest)
placed_behind until (suc passed) (leaf it rest) = placed_behind until passed rest
placed_behind until (suc passed) (node delimiter children rest) = placed_behind until passed rest

-- the pattern that trees spell if they end before that flat place
abbrev pub placed_until : (until : ℕ) → Forest → Placed
placed_until until trees = placed_behind until zero trees

-- the pattern that trees spell, with places
abbrev pub placed_of : Forest → Placed
placed_of trees = placed_until (size trees) trees

-- the pattern that trees spell
abbrev pub pattern_of : Forest → Pattern
pattern_of trees = plain (placed_of trees)
