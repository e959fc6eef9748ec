-- A step that passes the first tree of a level.
use Rattle.std.specs.Prelude.{◌≡◌, ◌-◌, ◌<◌, ◌+◌, ◌++◌, ℕ, zero, suc, Bool, List, [], map, Option, None, Some}
use Rattle.tt.specs.Forest.{end, size}
use Rattle.tt.specs.Iters.{rest_of}
use Rattle.tt.specs.Moves.{after_tree}
use Rattle.tt.specs.Types.Leaf.{Leaf}
use Rattle.tt.specs.Types.TtIter.{TtIter}
use Rattle.expand_unused.specs.declared.choice.Choice.{Choice}
use Rattle.expand_unused.specs.declared.part.Part as part_in_code
use Rattle.expand_unused.specs.declared.walk.Level.{Level}
use Rattle.expand_unused.specs.declared.walk.Step.{Step}
use Rattle.expand_unused.specs.declared.walk.Step.TheVariants as step
use Rattle.expand_unused.specs.Parts.{Part, first_at, first_parts, part_of, parts_in, passed_by}

-- the parts of a level that are left to note
abbrev pub left_in : Choice → (defined : ℕ → Bool) → Level → List Part
left_in choice defined level = parts_in choice defined level.passed level.left (rest_of level.rest)

-- what is to be walked before that
abbrev pub to_come : Choice → (defined : ℕ → Bool) → Step → List Part
to_come choice defined step.Over = []
to_come choice defined step.Past = []
to_come choice defined (step.Into inside) = left_in choice defined inside

-- less is left to do, or nothing
abbrev pub IsLess : Level → Step → Level → Type 0
IsLess old step.Over new = rest_of new.rest ≡ end
IsLess old step.Past new = size (rest_of new.rest) < size (rest_of old.rest)
IsLess old (step.Into inside) new = size (rest_of inside.rest) + size (rest_of new.rest) < size (rest_of old.rest)

-- a step: what is noted, what is to be walked and what is left are what was noted and left before
pub record IsStep (choice : Choice) (defined : ℕ → Bool) (old : Level) (before : List part_in_code.Part) (it : Step) (new : Level) (after : List part_in_code.Part) : Type 0 where
  pub less : IsLess old it new
  pub noted : (map part_of after ++ to_come choice defined it) ++ left_in choice defined new ≡ map part_of before ++ left_in choice defined old

-- the first tree is passed
abbrev pub IsBehind : (old new : Level) → Type 0
IsBehind old new = rest_of new.rest ≡ after_tree (rest_of old.rest)

-- what a leaf begins is noted, unless it is part of a definition; then so many trees behind it are
abbrev pub AreFirstNoted : Choice → (is_defined : Bool) → Leaf → (passed : ℕ) → (old : Level) → (before : List part_in_code.Part) → (next : ℕ) → (after : List part_in_code.Part) → Type 0
AreFirstNoted choice is_defined leaf passed old before next after =
    (0 < passed → (next ≡ passed - 1) × (map part_of after ≡ map part_of before))
    × (passed ≡ 0 → (next ≡ passed_by (first_at choice is_defined (rest_of old.rest)))
    × (map part_of after ≡ map part_of before ++ first_parts choice (first_at choice is_defined (rest_of old.rest)) leaf (rest_of old.rest)))

-- the first tree, a leaf, is passed
pub record IsLeafPassed (choice : Choice) (defined : ℕ → Bool) (leaf : Leaf) (old : Level) (before : List part_in_code.Part) (new : Level) (after : List part_in_code.Part) : Type 0 where
  pub behind : IsBehind old new
  pub left : new.left ≡ old.left - 1
  pub noted : AreFirstNoted choice (defined old.left) leaf old.passed old before new.passed after

-- the trees of a subtree are walked, unless they are part of a definition
abbrev pub IsInside : (children : TtIter) → (passed left : ℕ) → Option Level → Type 0
IsInside children (suc passed) left inside = inside ≡ None
IsInside children zero left inside = inside ≡ Some (record { rest = children; passed = 0; left = left - 1 })

-- the first tree, a subtree of so many tokens, is passed
pub record IsSubtreePassed (len : ℕ) (children : TtIter) (old : Level) (inside : Option Level) (new : Level) : Type 0 where
  pub behind : IsBehind old new
  pub left : new.left ≡ old.left - 1 - len
  pub passed : new.passed ≡ old.passed - 1
  pub into : IsInside children old.passed old.left inside
