-- One piece of a list of trees, which ends before the first separator.
use Rattle.std.specs.Prelude.{◌≡◌, ℕ, ◌+◌, ◌⊎◌, Bool, true, false, List, ◌∷◌, ◌++◌, length, map, Option, Some, None, cond}
use Rattle.std.specs.List.{FoldsTo, AllByRecursion}
use Rattle.tt_base.specs.Forest.{Forest}
use Rattle.tt_base.specs.Siblings.{list_of}
use Rattle.tt_view.specs.Views.{trees_of}
use Rattle.tt_view.specs.Iters.{rest_of, tree_of, IsCounted}
use Rattle.tt_view.specs.declared.iter.TtElement.{TtElement}
use Rattle.tt_view.specs.declared.view.TokenTreesView.{TokenTreesView}
use Rattle.tt_view.specs.declared.split.Split.{Split}

-- the trees that are left
abbrev pub left_in : {F : Type 0} → Split F → Forest
left_in s = rest_of s.rest

-- whether the last piece was returned
abbrev pub is_done : {F : Type 0} → Split F → Bool
is_done s = s.done

-- the predicate in its present state
abbrev pub asks_by : {F : Type 0} → Split F → F
asks_by s = s.is_separator

module _ {F : Type 0} (step : F → TtElement → Bool → F → Type 0) where
  -- the predicate was called for these trees, once each and in order, and returned false each time
  abbrev pub SaysNo : F → List TtElement → F → Type 0
  SaysNo = FoldsTo (λ p e q. step p e false q)

  -- all trees that are left are the last piece
  pub record IsLast (s : Split F) (asked : List TtElement) (t : Split F) : Type 0 where
    pub all : map tree_of asked ≡ list_of (rest_of s.rest)
    pub no : SaysNo s.is_separator asked t.is_separator
    pub done : t.done ≡ true

  -- a piece that ends before a tree for which the predicate returned true
  pub record IsBefore (s : Split F) (asked : List TtElement) (t : Split F) : Type 0 where
    pub separator : TtElement
    pub counted : IsCounted separator
    pub last : F
    pub no : SaysNo s.is_separator asked last
    pub yes : step last separator true t.is_separator
    pub all : list_of (rest_of s.rest) ≡ map tree_of asked ++ tree_of separator ∷ list_of (rest_of t.rest)
    pub more : t.done ≡ false

  -- one call of `next`: after the last piece it returns nothing, and calls nothing; otherwise it returns the next piece, and calls the
  -- predicate for its trees
  abbrev pub GivesPiece : Split F → Option TokenTreesView → Split F → Type 0
  GivesPiece s None t = (s.done ≡ true) × (t.done ≡ true) × (t.is_separator ≡ s.is_separator)
  GivesPiece s (Some piece) t =
      (s.done ≡ false) × ((asked : List TtElement) × (map tree_of asked ≡ list_of (trees_of piece)) × AllByRecursion IsCounted asked × (IsLast s asked t ⊎ IsBefore s asked t))

-- the largest number of pieces that can still come: none, or one more than there are trees
abbrev pub pieces_left : {F : Type 0} → Split F → ℕ
pieces_left s = cond s.done 0 (1 + length (list_of (rest_of s.rest)))
