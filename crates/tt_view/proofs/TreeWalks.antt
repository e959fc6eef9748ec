-- The trees that a walk has left.
use Rattle.std.proofs.Common.{◌≡◌, ◌+◌, ◌-◌, ◌<◌, ◌≤◌, ℕ, suc, List, [], ◌∷◌, ◌++◌, reverse, Ok, Err, OnErr, Result, ap, ap₂, sym, subst, ◌∙◌, arith}
use Rattle.std.proofs.lemmas.List.{reverse-append}
use Rattle.tt_base.specs.Forest.{Forest, Root, join}
use Rattle.tt_base.specs.Gluing.{after_trees}
use Rattle.tt_base.specs.Moves.{after_tree}
use Rattle.tt_pack.specs.declared.reader.Reader.{Reader}
use Rattle.tt_pack.specs.ReaderOf.{ahead_of, bytes_of, tables_of, offset_of}
use Rattle.tt_pack.specs.StoredIn.{bytes_for, tables_stored}
use Rattle.tt_view.specs.declared.tree_walk.Place.{Place}
use Rattle.tt_view.specs.HeldPlaces.{IsAheadIn, IsHeld, AreHeld, AreHeld-prop, trees_at, all_trees, HasTrees, HaveTrees}
use Rattle.tt_view.specs.TreeWalks.{IsFront}
use Rattle.tt_view.proofs.HeldPlaces.{held, is_ahead, trees_alike}

-- The trees of a place are those that are shown to be there.
pub trees_are_at : (root : Root) (place : Place) (held : IsHeld root place) (trees : Forest) → HasTrees root place trees → trees_at root place held ≡ trees
trees_are_at root place held trees (there, are) = trees_alike root place held there ∙ are

-- The same at several places.
pub all_are_at : (root : Root) (places : List Place) (held : AreHeld root places) (lists : List Forest) → HaveTrees root places lists → all_trees root places held ≡ lists
all_are_at root places held lists (there, are) = ap (all_trees root places) (AreHeld-prop root places held there) ∙ are

-- The same at the first place and the others.
pub levels_are_at : (root : Root) (place : Place) (places : List Place) (held : IsHeld root place) (others : AreHeld root places) (lists : List Forest)
    → HaveTrees root (place ∷ places) lists → lists ≡ trees_at root place held ∷ all_trees root places others
levels_are_at root place places held others lists have = sym (all_are_at root (place ∷ places) (held, others) lists have)

-- Equal lists of places have the same trees.
pub have_same : (root : Root) (places others : List Place) (lists : List Forest) → places ≡ others → HaveTrees root places lists → HaveTrees root others lists
have_same root places others lists same have = subst (λ ps. HaveTrees root ps lists) same have

-- One place more is pushed, or was popped.
module _ (root : Root) (place : Place) (outer all : List Place) (same : all ≡ outer ++ place ∷ []) where
  places : reverse all ≡ place ∷ reverse outer
  places = ap reverse same ∙ reverse-append outer (place ∷ [])

  pub pushed : (first : Forest) (lists : List Forest) → HasTrees root place first → HaveTrees root (reverse outer) lists → HaveTrees root (reverse all) (first ∷ lists)
  pushed first lists (there, is) (others, are) =
      have_same root (place ∷ reverse outer) (reverse all) (first ∷ lists) (sym places) ((there, others), ap₂ (λ f ls. f ∷ ls) is are)

  pub popped : (lists : List Forest) → HaveTrees root (reverse all) lists → HaveTrees root (place ∷ reverse outer) lists
  popped lists have = have_same root (reverse all) (place ∷ reverse outer) lists places have

-- The first trees below the top are behind the top's header.
pub behind_top : (root other : Root) (reader : Reader) (offset len : ℕ) (front : Forest) → IsFront root.children len front → other ≡ root
    → ahead_of reader ≡ other.children → bytes_of reader ≡ bytes_for other → tables_of reader ≡ tables_stored other → offset ≡ offset_of reader
    → HasTrees root (record { offset = offset; len = len }) front
behind_top root other reader offset len front (others, are, count) same ahead all tables there =
    let trees : ahead_of reader ≡ join front others = ahead ∙ ap (λ r. r.children) same ∙ are in
    let is : IsAheadIn root (offset_of reader) (join front others) =
    subst (IsAheadIn root (offset_of reader)) trees (is_ahead root reader (all ∙ ap bytes_for same) (tables ∙ ap tables_stored same)) in
    held root (record { offset = offset; len = len }) front others (subst (λ n. IsAheadIn root n (join front others)) (sym there) is) count

-- A fact holds behind an error too.
pub on_err : {T E P : Type 0} (result : Result T E) → P → OnErr result P
on_err (Ok it) holds = tt
on_err (Err it) holds = holds

-- One more tree is passed.
pub pass_next : (count i : ℕ) (trees : Forest) → i < count → after_trees (count - i) trees ≡ after_trees (count - (i + 1)) (after_tree trees)
pass_next count i trees less =
    let more : count - i ≡ suc (count - (i + 1)) = omega (arith, less) in
    ap (λ n. after_trees n trees) more

-- All are passed.
pub pass_all : (count i : ℕ) (trees : Forest) → count ≤ i → after_trees (count - i) trees ≡ trees
pass_all count i trees most =
    let none : count - i ≡ 0 = omega (arith, most) in
    ap (λ n. after_trees n trees) none
