-- How far a pattern comes in an input, and which of its parts come next there, also in an input that is no instance.
use Rattle.std.specs.Prelude.{◌≡◌, ◌⊎◌, ◌≤◌, ◌+◌, ℕ, zero, suc, true, List, [], ◌∷◌, length}
use Rattle.tt.specs.Forest.{Forest, end, size}
use Rattle.tt.specs.Gluing.{after_trees}
use Rattle.tt.specs.Moves.{after_tree}
use Rattle.tt.specs.Siblings.{children_of}
use Rattle.tt.specs.Types.Leaf.{Leaf}
use Rattle.mbe_matcher.specs.Parts.{place_count, separator_count}
use Rattle.mbe_matcher.specs.Fragments.{takes, left_by}
use Rattle.mbe_matcher.specs.Labels.{Label}
use Rattle.mbe_matcher.specs.Labels as label
use Rattle.mbe_matcher.specs.Places.{IsStuck}
use Rattle.mbe_matcher.specs.Readings.{Reading, Separates, Takes}
use Rattle.mbe_pattern.specs.declared.pattern.RepeatKind.{RepeatKind}
use Rattle.mbe_pattern.specs.Patterns.{Pattern, nothing, variable, token, subtree, repetition, may_be_none, may_be_more}
use Rattle.mbe_pattern.specs.Units.{IsUnitLike, IsNodeOf}

module _ (op : RepeatKind) (separator : List Leaf) (One : Forest → Forest → Type 0) (Within Between Behind : Forest → Type 0) where
  -- after that many rounds: what follows the repetition, or a separator and then another round; it
  -- stops before the separator, in that round, or continues after it
  abbrev pub OtherRoundsUpTo : ℕ → (input : Forest) → Type 0
  OtherRoundsUpTo zero input = ((may_be_more op ≡ true) × Between input) ⊎ Behind input
  OtherRoundsUpTo (suc n) input =
      (start : Forest) × (may_be_more op ≡ true) × Separates separator input start × (Within start ⊎ ((rest : Forest) × One start rest × OtherRoundsUpTo n rest))

  -- a first round, in which it stops, or one or more rounds; or no round if there may be none
  abbrev pub RoundsUpTo : (input : Forest) → Type 0
  RoundsUpTo input =
      (Within input ⊎ ((n : ℕ) × (rest : Forest) × One input rest × OtherRoundsUpTo n rest)) ⊎ ((may_be_none op ≡ true) × Behind input)

-- Parts are numbered from 0 in the order of the pattern: variables, tokens, the beginnings and the ends of subtrees, separators, and at
-- last the end of the input. `Next` is wanted of a part that comes next: its number, what it requires, the trees that are left of the
-- innermost subtree, and how many tokens follow that subtree.
module _ (Next : (part : ℕ) → Label → (trees : Forest) → (outside : ℕ) → Type 0) where
  -- the pattern takes trees, and then an end comes next
  abbrev pub EndsUpTo : (part : ℕ) → Pattern → (input : Forest) → (outside : ℕ) → Type 0
  EndsUpTo part pattern input outside = (reading : Reading) × (rest : Forest) × Takes pattern input reading rest × Next part label.leave rest outside

  -- the separator comes next, if there is one
  abbrev pub SeparatesUpTo : (part : ℕ) → (separator : List Leaf) → (input : Forest) → (outside : ℕ) → Type 0
  SeparatesUpTo part [] input outside = ⊥
  SeparatesUpTo part (it ∷ others) input outside = Next part (label.same (it ∷ others)) input outside

  -- the pattern, whose first part has that number, takes trees until one of its parts comes next; it stops before a part, or takes it and
  -- continues
  abbrev pub TakesUpTo : (at : ℕ) → Pattern → (input : Forest) → (outside : ℕ) → Type 0
  TakesUpTo at nothing input outside = ⊥
  TakesUpTo at (variable it others) input outside =
      Next at (label.take it) input outside ⊎ ((takes it.fragment input ≡ true) × TakesUpTo (suc at) others (left_by it.fragment input) outside)
  TakesUpTo at (token its others) input outside =
      Next at (label.same its) input outside ⊎ (IsUnitLike its input × TakesUpTo (suc at) others (after_trees (length its) input) outside)
  TakesUpTo at (subtree kind inner others) input outside =
      Next at (label.enter kind) input outside
      ⊎ (IsNodeOf kind input
      × ((TakesUpTo (suc at) inner (children_of input) (size (after_tree input) + outside)
      ⊎ EndsUpTo (suc at + place_count inner) inner (children_of input) (size (after_tree input) + outside))
      ⊎ ((inside : Reading) × Takes inner (children_of input) inside end × TakesUpTo (suc (suc at + place_count inner)) others (after_tree input) outside)))
  TakesUpTo at (repetition inner separator op others) input outside =
      RoundsUpTo op separator (λ trees rest. (reading : Reading) × Takes inner trees reading rest) (λ trees. TakesUpTo at inner trees outside)
      (λ trees. SeparatesUpTo (at + place_count inner) separator trees outside)
      (λ trees. TakesUpTo (at + place_count inner + separator_count separator) others trees outside) input

  -- the whole pattern does so, or the end of the input comes next
  abbrev pub ComesTo : Pattern → (input : Forest) → Type 0
  ComesTo pattern input = TakesUpTo 0 pattern input 0 ⊎ EndsUpTo (place_count pattern) pattern input 0

-- that many tokens are left
abbrev pub HasLeft : (left : ℕ) → (part : ℕ) → Label → (trees : Forest) → (outside : ℕ) → Type 0
HasLeft left part it trees outside = left ≡ size trees + outside

-- the farthest flat place where the pattern stops: before one of its parts as many tokens are left as follow that place, and never fewer
pub record StopsAt (pattern : Pattern) (input : Forest) (at : ℕ) : Type 0 where
  pub left : ℕ
  pub comes : ComesTo (HasLeft left) pattern input
  pub least : (other : ℕ) → ComesTo (HasLeft other) pattern input → left ≤ other
  pub place : at + left ≡ size input

-- it is the part of that number, that many tokens are left, and the trees there are not what it requires
abbrev pub HasMissed : (left number : ℕ) → (part : ℕ) → Label → (trees : Forest) → (outside : ℕ) → Type 0
HasMissed left number part it trees outside = (part ≡ number) × (left ≡ size trees + outside) × IsStuck it trees

-- the part of that number waits at a flat place: it comes next there, and the trees there are not what it requires
abbrev pub Waits : Pattern → (input : Forest) → (at : ℕ) → (number : ℕ) → Type 0
Waits pattern input at number = (left : ℕ) × (at + left ≡ size input) × ComesTo (HasMissed left number) pattern input
