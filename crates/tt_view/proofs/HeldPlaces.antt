-- What is at places of a stored tree.
use Rattle.std.proofs.Common.{◌≡◌, ℕ, refl, ap, sym, subst, ◌∙◌}
use Rattle.tt_base.specs.Forest.{Forest, Root, size, join}
use Rattle.tt_tables.specs.Meaning.{IsAhead}
use Rattle.tt_pack.specs.declared.reader.Reader.{Reader}
use Rattle.tt_pack.specs.ReaderOf.{ahead_of, bytes_of, tables_of, offset_of, StepsTo}
use Rattle.tt_pack.specs.StoredIn.{bytes_for, tables_stored}
use Rattle.tt_view.specs.declared.tree_walk.Place.{Place}
use Rattle.tt_view.specs.HeldPlaces.{IsAheadIn, IsHeld, IsHeld-prop, HasTrees, trees_at}

module _ (root : Root) (place : Place) where
  -- These trees are at the place.
  pub held : (trees others : Forest) → IsAheadIn root place.offset (join trees others) → size trees ≡ place.len → HasTrees root place trees
  held trees others is len = (((join trees others, is), ((trees, others), (refl, len))), refl)

  -- Only one list of trees is at a place.
  pub trees_alike : (a b : IsHeld root place) → trees_at root place a ≡ trees_at root place b
  trees_alike a b = ap (trees_at root place) (IsHeld-prop root place a b)

-- What a reader is shown to have ahead in a tree, it has in an equal one.
pub ahead_is : (other root : Root) (reader : Reader) (offset : ℕ) → other ≡ root → ((trees : Forest) → IsAheadIn other offset trees → ahead_of reader ≡ trees)
    → (trees : Forest) → IsAheadIn root offset trees → ahead_of reader ≡ trees
ahead_is other root reader offset same shown trees is = shown trees (subst (λ r. IsAheadIn r offset trees) (sym same) is)

module _ (root : Root) (reader : Reader) (all : bytes_of reader ≡ bytes_for root) (tables : tables_of reader ≡ tables_stored root) where
  -- What is ahead of a reader of the tree is ahead of its offset.
  pub is_ahead : IsAheadIn root (offset_of reader) (ahead_of reader)
  is_ahead =
      subst (λ bs. IsAhead (tables_stored root) bs (offset_of reader) (ahead_of reader)) all
      (subst (λ ts. IsAhead ts (bytes_of reader) (offset_of reader) (ahead_of reader)) tables reader.ahead.1)

-- The same for the trees ahead after a step.
pub is_ahead_then : (root : Root) (old new : Reader) (trees : Forest) → bytes_of old ≡ bytes_for root → tables_of old ≡ tables_stored root → StepsTo old trees new
    → IsAheadIn root (offset_of new) trees
is_ahead_then root old new trees all tables step =
    subst (IsAheadIn root (offset_of new)) step.ahead (is_ahead root new (step.same.0 ∙ all) (step.same.1 ∙ tables))
