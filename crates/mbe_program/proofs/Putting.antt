-- A search after an arrival was put into it.
use Rattle.std.proofs.Common.{◌≡◌, ◌≤◌, suc, Bool, true, false, [], ◌∷◌, ◌++◌, length, ap, ◌∙◌, arith}
use Rattle.std.proofs.lemmas.List.{length-append}
use Rattle.std.specs.Prelude.{set}
use Rattle.mbe_program.specs.Searching.{index_in, way_in, ways_of, way_weight, ways_weight, log_of, AreAlike, HasCell, IsRoomy}
use Rattle.mbe_matcher.specs.Marks.{Note}
use Rattle.mbe_program.specs.Ways.{Coming, IsSet, way_of}
use Rattle.mbe_program.specs.declared.cell.Cell.{Cell}
use Rattle.mbe_program.specs.declared.search.Search.{Search}
use Rattle.mbe_program.specs.declared.search.Way.{Way}
use Rattle.mbe_program.specs.declared.search.Way.TheVariants as way
use Rattle.mbe_program.proofs.Indices.{way_here, way_elsewhere, weight_at, set_length}

module _ (old new : Search) (it : Cell) (becomes : Way) (has : HasCell old it) (width : new.width ≡ old.width) (cells : new.cells.items ≡ set old.cells.items (index_in old.width it) becomes) where
  ways : (other : Cell) → ways_of new other ≡ way_in old.width (set old.cells.items (index_in old.width it) becomes) other
  ways other = ap (λ width. way_in width new.cells.items other) width ∙ ap (λ cells. way_in old.width cells other) cells

  -- The ways to its cell are set.
  pub put_set : IsSet Cell Note (ways_of old) (ways_of new) it becomes
  put_set = (
    ways it ∙ way_here old.width old.cells.items it becomes has.0 has.1,
    λ other differs. ways other ∙ way_elsewhere old.width old.cells.items it becomes has.0 has.1 other differs,
  )

  -- The rows are as they were.
  pub put_alike : AreAlike new old
  put_alike = (width, ap length cells ∙ set_length old.cells.items (index_in old.width it) becomes)

  -- The log has room for one more arrival.
  pub put_roomy : (arrival : Coming Cell Note) → log_of new ≡ log_of old ++ arrival ∷ [] → suc (way_weight (ways_of old it)) ≤ way_weight becomes → IsRoomy old → IsRoomy new
  put_roomy arrival log more least =
      let weight = weight_at old.width old.cells.items it becomes has.0 has.1 in
      let now : ways_weight new.cells.items ≡ ways_weight (set old.cells.items (index_in old.width it) becomes) = ap ways_weight cells in
      let count : length (log_of new) ≡ length (log_of old ++ arrival ∷ []) = ap length log in
      let one = length-append (log_of old) (arrival ∷ []) in
      omega (arith, weight, now, count, one, least, more)

-- A known way weighs at least one.
pub one_weighs : (is_many : Bool) (before : Way) → before ≡ way.Unseen → suc (way_weight before) ≤ way_weight (way_of is_many)
one_weighs true before same = let none : way_weight before ≡ 0 = ap way_weight same in omega (arith, none)
one_weighs false before same = let none : way_weight before ≡ 0 = ap way_weight same in omega (arith, none)

pub two_weigh : (before : Way) → before ≡ way.Once → suc (way_weight before) ≤ way_weight way.Often
two_weigh before same = let one : way_weight before ≡ 1 = ap way_weight same in omega (arith, one)
