-- The effect of one more piece on the trees that are left.
use Rattle.std.proofs.Common.{◌≡◌, ◌⊎◌, inl, inr, Bool, true, false, cond, List, [], ◌∷◌, ◌++◌, Some, map, refl, ap, sym, ◌∙◌}
use Rattle.std.specs.List.{AllByRecursion, FoldsTo}
use Rattle.tt.specs.Iters.{tree_of}
use Rattle.tt.specs.Pieces.{GivesPiece, IsLast, IsBefore, left_in, is_done}
use Rattle.tt.specs.Siblings.{Tree, list_of}
use Rattle.tt.specs.Types.Split.{Split}
use Rattle.tt.specs.Types.TokenTreesView.{TokenTreesView}
use Rattle.tt.specs.Types.TtElement.{TtElement}
use Rattle.std.specs.List.{slice_split, onto_first}
use Rattle.test_contracts.specs.Commas.{is_comma}
use Rattle.test_contracts.specs.ViewTrees.{view_trees}

module _ {X : Type 0} (test : X → Bool) where
  -- no tree passes
  abbrev pub NonePasses : List X → Type 0
  NonePasses = AllByRecursion (λ x. test x ≡ false)

  -- A piece up to one that passes.
  cut_before : (xs : List X) (x : X) (rest : List X) → NonePasses xs → test x ≡ true → slice_split test (xs ++ (x ∷ rest)) ≡ xs ∷ slice_split test rest
  cut_before [] x rest fail pass = rw pass refl
  cut_before (y ∷ xs) x rest fail pass = rw fail.0 (ap (onto_first y) (cut_before xs x rest fail.1 pass))

  -- The last piece.
  cut_last : (xs : List X) → NonePasses xs → slice_split test xs ≡ xs ∷ []
  cut_last [] fail = refl
  cut_last (y ∷ xs) fail = rw fail.0 (ap (onto_first y) (cut_last xs fail.1))

-- the pieces to come
abbrev pub to_come : {F : Type 0} → Split F → List (List Tree)
to_come s = cond (is_done s) [] (slice_split is_comma (list_of (left_in s)))

module _ {F : Type 0} (step : F → TtElement → Bool → F → Type 0)
    (answers : (p : F) (e : TtElement) (b : Bool) (q : F) → step p e b q → b ≡ is_comma (tree_of e)) where
  -- The elements with the answer no are no commas.
  no_commas : (p : F) (asked : List TtElement) (q : F) → FoldsTo (λ x e y. step x e false y) p asked q → NonePasses is_comma (map tree_of asked)
  no_commas p [] q folds = tt
  no_commas p (e ∷ asked) q (next, one, more) = (sym (answers p e false next one), no_commas next asked q more)

  -- A piece, and the pieces to come after it, are the pieces that were to come before it.
  pub one_piece : (s t : Split F) (piece : TokenTreesView) → GivesPiece step s (Some piece) t → to_come s ≡ view_trees piece ∷ to_come t
  one_piece s t piece (going, (asked, are, counted, told)) = rw going (either told)
    where
      last : IsLast step s asked t → slice_split is_comma (list_of (left_in s)) ≡ view_trees piece ∷ to_come t
      last it = rw it.done (ap (slice_split is_comma) (sym it.all) ∙ cut_last is_comma (map tree_of asked) (no_commas _ asked _ it.no) ∙ ap (λ x. x ∷ []) are)

      before : IsBefore step s asked t → slice_split is_comma (list_of (left_in s)) ≡ view_trees piece ∷ to_come t
      before it =
          rw it.more
          (ap (slice_split is_comma) it.all
          ∙ cut_before is_comma (map tree_of asked) (tree_of it.separator) _ (no_commas _ asked _ it.no) (sym (answers _ it.separator true _ it.yes))
          ∙ ap (λ x. x ∷ slice_split is_comma (list_of (left_in t))) are)

      either : IsLast step s asked t ⊎ IsBefore step s asked t → slice_split is_comma (list_of (left_in s)) ≡ view_trees piece ∷ to_come t
      either (inl it) = last it
      either (inr it) = before it
