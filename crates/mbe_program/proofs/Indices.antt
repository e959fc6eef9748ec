-- The ways of all cells in one list, and what setting one of them changes.
use Rattle.std.proofs.Common.{◌≡◌, ◌+◌, ◌*◌, ◌<◌, ◌≤◌, ℕ, zero, suc, Bool, true, false, List, [], ◌∷◌, length, refl, ap, ap₂, sym, subst, ◌∙◌, arith}
use Rattle.std.proofs.lemmas.Bool.Decides.{Decides-ltb}
use Rattle.std.proofs.lemmas.List.{get_or-set_same, get_or-set_other}
use Rattle.std.specs.Prelude.{nat_lt, set, slice_index_or, if◌then◌else◌}
use Rattle.mbe_program.specs.Searching.{index_in, way_in, way_weight, ways_weight, AreAlike, HasCell, HasRows}
use Rattle.mbe_program.specs.declared.cell.Cell.{Cell}
use Rattle.mbe_program.specs.declared.search.Search.{Search}
use Rattle.mbe_program.specs.declared.search.Way.{Way}
use Rattle.mbe_program.specs.declared.search.Way.TheVariants as way

-- A cell of so many rows is one of theirs.
pub index_within : (count width position left : ℕ) → position < count → left < width → position * width + left < count * width
index_within zero width position left within lt = absurd (omega (arith, within))
index_within (suc count) width zero left within lt = omega (arith, lt)
index_within (suc count) width (suc position) left within lt = let rest = index_within count width position left (omega (arith, within)) lt in omega (arith, rest)

pub has_cell : (search : Search) (count width : ℕ) → HasRows count width search → (it : Cell) → it.position < count → it.left < width → HasCell search it
has_cell search count width rows it position left = (
  subst (λ n. it.left < n) (sym rows.0) left,
  subst (λ n. index_in n it < length search.cells.items) (sym rows.0) (subst (λ n. index_in width it < n) (sym rows.1) (index_within count width it.position it.left position left)),
)

pub has_cell_too : (new old : Search) (it : Cell) → AreAlike new old → HasCell old it → HasCell new it
has_cell_too new old it alike has = (
  subst (λ n. it.left < n) (sym alike.0) has.0,
  subst (λ n. index_in n it < length new.cells.items) (sym alike.0) (subst (λ n. index_in old.width it < n) (sym alike.1) has.1),
)

-- Two cells of one number are the same.
index_tells : (width i j a b : ℕ) → a < width → b < width → i * width + a ≡ j * width + b → (i ≡ j) × (a ≡ b)
index_tells width zero zero a b lt less same = (refl, omega (arith, same))
index_tells width zero (suc j) a b lt less same = absurd (omega (arith, same, lt))
index_tells width (suc i) zero a b lt less same = absurd (omega (arith, same, less))
index_tells width (suc i) (suc j) a b lt less same = let rest = index_tells width i j a b lt less (omega (arith, same)) in (ap suc rest.0, rest.1)

same_cell : (width : ℕ) (it other : Cell) → it.left < width → other.left < width → index_in width it ≡ index_in width other → it ≡ other
same_cell width it other lt less same =
    let are = index_tells width it.position other.position it.left other.left lt less same in
    ap₂ (λ (position left : ℕ). let cell : Cell = record { position = position; left = left } in cell) are.0 are.1

-- The way of a cell stands at its number.
pub way_at : (width : ℕ) (cells : List Way) (it : Cell) → it.left < width → way_in width cells it ≡ slice_index_or cells (index_in width it) way.Unseen
way_at width cells it lt = ap (λ b. if b then slice_index_or cells (index_in width it) way.Unseen else way.Unseen) ((Decides-ltb it.left width).1 lt)

pub set_length : (cells : List Way) (j : ℕ) (it : Way) → length (set cells j it) ≡ length cells
set_length [] j it = refl
set_length (first ∷ others) zero it = refl
set_length (first ∷ others) (suc j) it = ap suc (set_length others j it)

module _ (width : ℕ) (cells : List Way) (it : Cell) (becomes : Way) (lt : it.left < width) (within : index_in width it < length cells) where
  -- One way is set,
  pub way_here : way_in width (set cells (index_in width it) becomes) it ≡ becomes
  way_here = way_at width (set cells (index_in width it) becomes) it lt ∙ get_or-set_same cells (index_in width it) becomes way.Unseen within

  -- and all others stay.
  pub way_elsewhere : (other : Cell) → (other ≡ it → ⊥) → way_in width (set cells (index_in width it) becomes) other ≡ way_in width cells other
  way_elsewhere other differs = by (nat_lt other.left width) refl
    where
      by : (b : Bool) → nat_lt other.left width ≡ b
          → (if b then slice_index_or (set cells (index_in width it) becomes) (index_in width other) way.Unseen else way.Unseen)
          ≡ (if b then slice_index_or cells (index_in width other) way.Unseen else way.Unseen)
      by true is =
          get_or-set_other cells (index_in width it) (index_in width other) becomes way.Unseen
          (λ same. differs (same_cell width other it ((Decides-ltb other.left width).0 is) lt same))
      by false is = refl

-- The weight after one way was set.
set_weight : (cells : List Way) (j : ℕ) (it : Way) → j < length cells → ways_weight (set cells j it) + way_weight (slice_index_or cells j way.Unseen) ≡ ways_weight cells + way_weight it
set_weight [] j it lt = absurd (omega (arith, lt))
set_weight (first ∷ others) zero it lt = omega arith
set_weight (first ∷ others) (suc j) it lt = let rest = set_weight others j it (omega (arith, lt)) in omega (arith, rest)

pub weight_at : (width : ℕ) (cells : List Way) (it : Cell) (becomes : Way) → it.left < width → index_in width it < length cells
    → ways_weight (set cells (index_in width it) becomes) + way_weight (way_in width cells it) ≡ ways_weight cells + way_weight becomes
weight_at width cells it becomes lt within =
    ap (λ way. ways_weight (set cells (index_in width it) becomes) + way_weight way) (way_at width cells it lt) ∙ set_weight cells (index_in width it) becomes within

-- A way weighs two at most,
weighs : (it : Way) → way_weight it ≤ 2
weighs way.Unseen = omega arith
weighs way.Once = omega arith
weighs way.Often = omega arith

-- and so do all of them.
pub ways_weigh : (cells : List Way) → ways_weight cells ≤ length cells + length cells
ways_weigh [] = omega arith
ways_weigh (it ∷ others) = let one = weighs it in let rest = ways_weigh others in omega (arith, one, rest)
