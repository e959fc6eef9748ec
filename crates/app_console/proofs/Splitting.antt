-- How a list of trees is split piece by piece.
use Rattle.std.proofs.Common.{◌≡◌, suc, ◌+◌, Bool, true, false, List, [], ◌∷◌, ◌++◌, Some, None, inl, inr, map, cond, refl, ap, sym, subst, ◌∙◌}
use Rattle.std.specs.List.{slice_split, AllByRecursion}
use Rattle.tt.specs.Forest.{Forest, end, leaf, node, size}
use Rattle.tt.specs.Siblings.{Tree, list_of}
use Rattle.tt.specs.Iters.{tree_of}
use Rattle.tt.specs.Pieces.{GivesPiece, SaysNo, left_in, is_done, asks_by}
use Rattle.tt.specs.Views.{trees_of}
use Rattle.app_console.specs.Pieces.{tokens_in}
use Rattle.tt_view.specs.declared.iter.TtElement.{TtElement}
use Rattle.tt_view.specs.declared.split.Split.{Split}
use Rattle.tt_view.specs.declared.view.TokenTreesView.{TokenTreesView}

-- trees without separators are one piece
split_last : (is_separator : Tree → Bool) (trees : List Tree) → AllByRecursion (λ tree. is_separator tree ≡ false) trees → slice_split is_separator trees ≡ trees ∷ []
split_last is_separator [] none = refl
split_last is_separator (tree ∷ trees) none = rw (none.0, split_last is_separator trees none.1) refl

-- the same before a separator
split_before : (is_separator : Tree → Bool) (trees : List Tree) (separator : Tree) (rest : List Tree) → AllByRecursion (λ tree. is_separator tree ≡ false) trees
    → is_separator separator ≡ true → slice_split is_separator (trees ++ separator ∷ rest) ≡ trees ∷ slice_split is_separator rest
split_before is_separator [] separator rest none is = rw is refl
split_before is_separator (tree ∷ trees) separator rest none is = rw (none.0, split_before is_separator trees separator rest none.1 is) refl

-- trees have as many tokens as their list
pub tokens_in-list_of : (trees : Forest) → tokens_in (list_of trees) ≡ size trees
tokens_in-list_of end = refl
tokens_in-list_of (leaf it rest) = ap suc (tokens_in-list_of rest)
tokens_in-list_of (node delimiter children rest) = ap (λ n. suc (size children + n)) (tokens_in-list_of rest)

-- the pieces that are still to come
abbrev pub left_pieces : {F : Type 0} → (Tree → Bool) → Split F → List (List Tree)
left_pieces is_separator s = cond (is_done s) [] (slice_split is_separator (list_of (left_in s)))

module _ {F : Type 0} (step : F → TtElement → Bool → F → Type 0) (is_separator : Tree → Bool) where
  -- in this state it answers whether a tree is a separator, and stays in the state
  abbrev pub Asks : F → Type 0
  Asks p = (element : TtElement) (answer : Bool) (q : F) → step p element answer q → (answer ≡ is_separator (tree_of element)) × (q ≡ p)

  all_no : (p : F) → Asks p → (asked : List TtElement) (q : F) → SaysNo step p asked q → AllByRecursion (λ tree. is_separator tree ≡ false) (map tree_of asked) × (q ≡ p)
  all_no p by [] q said = (tt, sym said)
  all_no p by (element ∷ asked) q (j, denied, more) =
      let here = by element false j denied in
      let later = all_no p by asked q (subst (λ k. SaysNo step k asked q) here.1 more) in
      ((sym here.0, later.0), later.1)

  -- the piece that is returned is the first of these
  pub piece_given : (p : F) → Asks p → (s : Split F) (piece : TokenTreesView) (t : Split F) → asks_by s ≡ p → GivesPiece step s (Some piece) t
      → (left_pieces is_separator s ≡ list_of (trees_of piece) ∷ left_pieces is_separator t) × (asks_by t ≡ p)
  piece_given p by s piece t same (more, (asked, is, counted, inl last)) =
      let said = all_no p by asked (asks_by t) (subst (λ k. SaysNo step k asked (asks_by t)) same last.no) in (
        ap (λ b. cond b [] (slice_split is_separator (list_of (left_in s)))) more
            ∙ ap (slice_split is_separator) (sym last.all)
            ∙ split_last is_separator (map tree_of asked) said.0
            ∙ ap (λ x. x ∷ []) is
            ∙ ap (λ b. list_of (trees_of piece) ∷ cond b [] (slice_split is_separator (list_of (left_in t)))) (sym last.done),
        said.1,
      )
  piece_given p by s piece t same (more, (asked, is, counted, inr before)) =
      let said = all_no p by asked before.last (subst (λ k. SaysNo step k asked before.last) same before.no) in
      let here = by before.separator true (asks_by t) (subst (λ k. step k before.separator true (asks_by t)) said.1 before.yes) in (
        ap (λ b. cond b [] (slice_split is_separator (list_of (left_in s)))) more
            ∙ ap (slice_split is_separator) before.all
            ∙ split_before is_separator (map tree_of asked) (tree_of before.separator) (list_of (left_in t)) said.0 (sym here.0)
            ∙ ap (λ x. x ∷ slice_split is_separator (list_of (left_in t))) is
            ∙ ap (λ b. list_of (trees_of piece) ∷ cond b [] (slice_split is_separator (list_of (left_in t)))) (sym before.more),
        here.1,
      )

  -- if no piece is returned, none is left
  pub none_given : (s t : Split F) → GivesPiece step s None t → left_pieces is_separator s ≡ []
  none_given s t (done, done_after, same) = ap (λ b. cond b [] (slice_split is_separator (list_of (left_in s)))) done
