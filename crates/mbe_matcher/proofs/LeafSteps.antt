-- Compares the trees at the front leaf by leaf, and counts them.
use Rattle.std.proofs.Common.{◌+◌, ◌<◌, ◌≤◌, ℕ, List, length, get_or, drop, sym, subst}
use Rattle.std.proofs.lemmas.List.{drop_more, drop_all}
use Rattle.std.specs.Prelude.{◌↔◌}
use Rattle.tt.specs.Forest.{Forest}
use Rattle.tt.specs.Moves.{after_tree}
use Rattle.tt.specs.Types.Leaf.{Leaf}
use Rattle.mbe_pattern.specs.Units.{IsLeafLike, AreLeavesLike}

-- so far: the leaves are like the trees exactly if the leaves that are left are
abbrev pub AreAlikeSoFar : List Leaf → (before : Forest) → ℕ → (now : Forest) → Type 0
AreAlikeSoFar leaves before i now = AreLeavesLike leaves before ↔ AreLeavesLike (drop i leaves) now

module _ (leaves : List Leaf) (before now : Forest) (i : ℕ) (d : Leaf) (lt : i < length leaves) (so_far : AreAlikeSoFar leaves before i now) where
  -- The next is there.
  pub leaf_there : IsLeafLike (get_or leaves i d) now → AreAlikeSoFar leaves before (i + 1) (after_tree now)
  leaf_there like = (
    λ all. (subst (λ l. AreLeavesLike l now) (drop_more leaves i d lt) (so_far.0 all)).1,
    λ more. so_far.1 (subst (λ l. AreLeavesLike l now) (sym (drop_more leaves i d lt)) (like, more)),
  )

  -- It is not.
  pub leaf_missing : (IsLeafLike (get_or leaves i d) now → ⊥) → AreLeavesLike leaves before → ⊥
  leaf_missing other all = other (subst (λ l. AreLeavesLike l now) (drop_more leaves i d lt) (so_far.0 all)).0

-- All are.
pub leaves_there : (leaves : List Leaf) (before now : Forest) (i : ℕ) → length leaves ≤ i → AreAlikeSoFar leaves before i now → AreLeavesLike leaves before
leaves_there leaves before now i le so_far = so_far.1 (subst (λ l. AreLeavesLike l now) (sym (drop_all i leaves le)) tt)
