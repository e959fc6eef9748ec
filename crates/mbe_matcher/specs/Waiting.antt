-- Which parts of a pattern wait at a flat place of an input, and flags that are set.
use Rattle.std.specs.Prelude.{◌≡◌, ℕ, suc, Bool, true, false, List, [], ◌∷◌, Contains, slice_index_or}
use Rattle.std.specs.List.Sorted.{IsStrictlyIncreasing}
use Rattle.tt.specs.Forest.{Forest}
use Rattle.mbe_matcher.specs.Fronts.{Waits}
use Rattle.mbe_pattern.specs.Patterns.{Pattern}

-- these are the numbers of the parts that wait at a flat place, in the order of the pattern
pub record AreWaiting (pattern : Pattern) (input : Forest) (at : ℕ) (numbers : List ℕ) : Type 0 where
  pub rising : IsStrictlyIncreasing numbers
  pub each : (number : ℕ) → Contains numbers number → Waits pattern input at number
  pub all : (number : ℕ) → Waits pattern input at number → Contains numbers number

-- the flag of that number is set
abbrev pub IsSet : List Bool → ℕ → Type 0
IsSet flags n = slice_index_or flags n false ≡ true

-- the numbers of the flags that are set; the first flag has that number
abbrev pub set_from : (from : ℕ) → List Bool → List ℕ
set_from from [] = []
set_from from (true ∷ flags) = from ∷ set_from (suc from) flags
set_from from (false ∷ flags) = set_from (suc from) flags
