-- Places of an input: what is left of the subtrees that are open there, and whether a part of a pattern goes on there.
use Rattle.std.specs.Prelude.{◌≡◌, ◌+◌, ℕ, true, List, [], ◌∷◌}
use Rattle.tt.specs.Forest.{Forest, end, size}
use Rattle.tt.specs.Gluing.{after_trees}
use Rattle.tt.specs.Moves.{after_tree}
use Rattle.tt.specs.Siblings.{children_of}
use Rattle.mbe_matcher.specs.Labels.{Label}
use Rattle.mbe_matcher.specs.Labels as label
use Rattle.mbe_matcher.specs.Fragments.{takes}
use Rattle.mbe_pattern.specs.declared.pattern.Variable.{Variable}
use Rattle.mbe_pattern.specs.Units.{IsUnitLike, IsNodeOf}

-- what is left of the innermost level
abbrev pub front : List Forest → Forest
front [] = end
front (trees ∷ outer) = trees

-- the innermost level is at its end
abbrev pub IsEnded : List Forest → Type 0
IsEnded [] = ⊥
IsEnded (trees ∷ outer) = trees ≡ end

-- the variable takes the trees at the front of the innermost level
abbrev pub TakesFront : Variable → List Forest → Type 0
TakesFront which [] = ⊥
TakesFront which (trees ∷ outer) = takes which.fragment trees ≡ true

-- the levels, the innermost first, have what is required
abbrev pub Passes : Label → List Forest → Type 0
Passes (label.take which) levels = TakesFront which levels
Passes (label.same its) levels = IsUnitLike its (front levels)
Passes (label.enter kind) levels = IsNodeOf kind (front levels)
Passes label.leave levels = IsEnded levels

-- the levels after that many trees of the innermost
abbrev pub passed : ℕ → List Forest → List Forest
passed n [] = []
passed n (trees ∷ outer) = after_trees n trees ∷ outer

-- the levels inside the first tree
abbrev pub entered : List Forest → List Forest
entered [] = []
entered (trees ∷ outer) = children_of trees ∷ after_tree trees ∷ outer

-- the levels outside the innermost
abbrev pub left : List Forest → List Forest
left [] = []
left (trees ∷ outer) = outer

-- how many tokens are left in the levels
abbrev pub left_in : List Forest → ℕ
left_in [] = 0
left_in (trees ∷ outer) = size trees + left_in outer

-- the innermost level does not have what is required
abbrev pub IsStuck : Label → (trees : Forest) → Type 0
IsStuck it trees = Passes it (trees ∷ []) → ⊥
