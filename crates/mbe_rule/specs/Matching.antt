-- What the next sibling of a pattern finds in an input.
use Rattle.std.specs.Prelude.{◌≡◌, ◌↔◌, ◌<◌, ◌+◌, ℕ, true, List, [], ◌∷◌, ◌++◌}
use Rattle.tt.specs.Forest.{Forest, end, size}
use Rattle.tt.specs.Iters.{rest_of}
use Rattle.tt.specs.Moves.{after_tree}
use Rattle.tt.specs.Siblings.{first_tree, children_of}
use Rattle.mbe_rule.specs.declared.matching.Pair.{Pair}
use Rattle.mbe_rule.specs.declared.matching.Progress.{Progress}
use Rattle.mbe_rule.specs.declared.matching.Progress.TheVariants as progress
use Rattle.mbe_rule.specs.Instances.{Pattern, nothing, variable, token, subtree, pattern_of, takes}
use Rattle.mbe_pattern.specs.Units.{IsLeafLike, IsNodeOf}

-- the trees agree with the pattern, for any binding
abbrev pub Matches : Pattern → (input : Forest) → Type 0
Matches nothing input = input ≡ end
Matches (variable it others) input = (takes it.fragment input ≡ true) × Matches others (after_tree input)
Matches (token it others) input = IsLeafLike it input × Matches others (after_tree input)
Matches (subtree kind inner others) input = IsNodeOf kind input × Matches inner (children_of input) × Matches others (after_tree input)

-- the trees in the places of the variables, in reading order
abbrev pub trees_bound : Pattern → (input : Forest) → List Forest
trees_bound nothing input = []
trees_bound (variable it others) input = first_tree input ∷ trees_bound others (after_tree input)
trees_bound (token it others) input = trees_bound others (after_tree input)
trees_bound (subtree kind inner others) input = trees_bound inner (children_of input) ++ trees_bound others (after_tree input)

-- what is left agrees
abbrev pub PairMatches : Pair → Type 0
PairMatches pair = Matches (pattern_of (rest_of pair.pattern)) (rest_of pair.input)

-- the trees that the variables of what is left take
abbrev pub pair_trees : Pair → List Forest
pair_trees pair = trees_bound (pattern_of (rest_of pair.pattern)) (rest_of pair.input)

-- how many tokens of the pattern are left
abbrev pub pair_size : Pair → ℕ
pair_size pair = size (rest_of pair.pattern)

-- the result of one step, given the trees taken before it and after it
abbrev pub Advances : Pair → (before : List Forest) → Progress → Pair → (after : List Forest) → Type 0
Advances old before progress.Ends new after = PairMatches old × (pair_trees old ≡ []) × (after ≡ before)
Advances old before progress.Passes new after =
    (PairMatches old ↔ PairMatches new) × (after ++ pair_trees new ≡ before ++ pair_trees old) × (pair_size new < pair_size old)
Advances old before (progress.Enters below) new after =
    (PairMatches old ↔ PairMatches below × PairMatches new) × (pair_trees old ≡ pair_trees below ++ pair_trees new) × (after ≡ before)
    × (pair_size below + pair_size new < pair_size old)
Advances old before progress.Differs new after = PairMatches old → ⊥
