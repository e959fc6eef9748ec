-- The parts of a pattern: how many there are, and each by its number.
use Rattle.std.specs.Prelude.{ℕ, suc, ◌+◌, List, [], ◌∷◌, ◌++◌, Option, slice_get}
use Rattle.tt.specs.Types.Leaf.{Leaf}
use Rattle.mbe_matcher.specs.Labels.{Label}
use Rattle.mbe_matcher.specs.Labels as label
use Rattle.mbe_pattern.specs.Patterns.{Pattern, nothing, variable, token, subtree, repetition}

-- how many parts a separator is
abbrev pub separator_count : List Leaf → ℕ
separator_count [] = 0
separator_count (it ∷ others) = 1

-- how many parts a pattern has
abbrev pub place_count : Pattern → ℕ
place_count nothing = 0
place_count (variable it others) = suc (place_count others)
place_count (token its others) = suc (place_count others)
place_count (subtree kind inner others) = suc (place_count inner + suc (place_count others))
place_count (repetition inner separator op others) = place_count inner + (separator_count separator + place_count others)

-- the separator, if there is one
abbrev pub separator_parts : (separator : List Leaf) → List Label
separator_parts [] = []
separator_parts (it ∷ others) = label.same (it ∷ others) ∷ []

-- the parts of a pattern in its order: variables, tokens, the beginnings and the ends of subtrees, and separators
abbrev pub parts_of : Pattern → List Label
parts_of nothing = []
parts_of (variable it others) = label.take it ∷ parts_of others
parts_of (token its others) = label.same its ∷ parts_of others
parts_of (subtree kind inner others) = label.enter kind ∷ (parts_of inner ++ label.leave ∷ parts_of others)
parts_of (repetition inner separator op others) = parts_of inner ++ (separator_parts separator ++ parts_of others)

-- the part of that number; the last one is the end of the input
abbrev pub part_of : Pattern → (number : ℕ) → Option Label
part_of pattern number = slice_get (parts_of pattern ++ label.leave ∷ []) number
