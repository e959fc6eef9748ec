-- How many ways lead to a cell, by a log of arrivals.
use Rattle.std.specs.Prelude.{◌≡◌, ◌⊎◌, ◌≤◌, ◌<◌, ℕ, zero, suc, Bool, true, false, List, [], ◌∷◌, ◌++◌, length}
use Rattle.mbe_program.specs.declared.search.Way.{Way}
use Rattle.mbe_program.specs.declared.search.Way.TheVariants as way

-- how many ways are known, if they are two or not
abbrev pub way_of : (is_many : Bool) → Way
way_of false = way.Once
way_of true = way.Often

module _ (Cell Note : Type 0) where
  -- an arrival at a cell, from the arrival before it of that number or from nowhere if that is 0, with these notes of the last step;
  -- and whether two different ways lead there
  pub record Coming : Type 0 where
    pub cell : Cell
    pub before : ℕ
    pub notes : List Note
    pub is_many : Bool

  -- the element of that number in a log
  abbrev pub IsAt : List Coming → (k : ℕ) → Coming → Type 0
  IsAt [] k it = ⊥
  IsAt (other ∷ others) zero it = it ≡ other
  IsAt (other ∷ others) (suc k) it = IsAt others k it

  -- the notes up to the arrival of that number, which is the n-th of its way; arrivals are numbered from 1, and 0 is before all of them
  abbrev pub Traces : (log : List Coming) → (n : ℕ) → (number : ℕ) → List Note → Type 0
  Traces log zero number notes = (number ≡ 0) × (notes ≡ [])
  Traces log (suc n) number notes =
      (k : ℕ) × (it : Coming) × (before : List Note) × (number ≡ suc k) × IsAt log k it × Traces log n it.before before × (notes ≡ before ++ it.notes)

  -- the ways to that cell are set, and no others change
  abbrev pub IsSet : (old new : Cell → Way) → Cell → Way → Type 0
  IsSet old new to way = (new to ≡ way) × ((other : Cell) → (other ≡ to → ⊥) → new other ≡ old other)

  -- one more arrival was tried: it is logged if no way to its cell was known, or if one was, and then as a second one
  abbrev pub IsAdded : Coming → (ways : Cell → Way) → (log : List Coming) → (new_ways : Cell → Way) → (new_log : List Coming) → Type 0
  IsAdded it ways log new_ways new_log =
      ((ways it.cell ≡ way.Unseen) × IsSet ways new_ways it.cell (way_of it.is_many) × (new_log ≡ log ++ it ∷ []))
      ⊎ (((ways it.cell ≡ way.Once) × IsSet ways new_ways it.cell way.Often × (new_log ≡ log ++ record it { is_many = true } ∷ []))
      ⊎ ((ways it.cell ≡ way.Often) × ((other : Cell) → new_ways other ≡ ways other) × (new_log ≡ log)))

  module _ (start : Cell) (Hop : Cell → Cell → List Note → Type 0) where
    -- that many hops lead from the start to a cell, and note this
    abbrev pub Comes : (n : ℕ) → Cell → List Note → Type 0
    Comes zero to notes = (to ≡ start) × (notes ≡ [])
    Comes (suc n) to notes = (from : Cell) × (before : List Note) × (its : List Note) × Comes n from before × Hop from to its × (notes ≡ before ++ its)

    -- two different ways lead to a cell
    pub record AreTwo (to : Cell) : Type 0 where
      pub n : ℕ
      pub notes : List Note
      pub m : ℕ
      pub others : List Note
      pub one : Comes n to notes
      pub other : Comes m to others
      pub differ : n ≡ m → notes ≡ others → ⊥

    -- an arrival at a cell by these notes comes from nowhere, at the start, or by a hop from the arrival before it
    abbrev pub IsSource : List Coming → (before : ℕ) → (to : Cell) → (notes : List Note) → (is_many : Bool) → Type 0
    IsSource log zero to notes is_many = (to ≡ start) × (notes ≡ []) × (is_many ≡ false)
    IsSource log (suc j) to notes is_many = (from : Coming) × IsAt log j from × Hop from.cell to notes × (is_many ≡ from.is_many)

    -- what a log and the known ways say, if these arrivals were tried
    pub record IsKept (ways : Cell → Way) (log : List Coming) (Done : ℕ → Cell → List Note → Type 0) : Type 0 where
      pub source : (k : ℕ) (it : Coming) → IsAt log k it → (is_many : Bool) × IsSource log it.before it.cell it.notes is_many × (is_many ≡ true → it.is_many ≡ true) × (it.before ≤ k)
      pub two : (k : ℕ) (it : Coming) → IsAt log k it → it.is_many ≡ true → AreTwo it.cell
      pub logged : (k : ℕ) (it : Coming) → IsAt log k it → Done it.before it.cell it.notes
      pub alone : (k j : ℕ) (it other : Coming) → IsAt log k it → IsAt log j other → it.is_many ≡ false → other.is_many ≡ false → it.cell ≡ other.cell → k ≡ j
      pub within : (before : ℕ) (to : Cell) (notes : List Note) → Done before to notes → before ≤ length log
      pub not_yet : (to : Cell) → ways to ≡ way.Unseen → ((before : ℕ) (notes : List Note) → Done before to notes → ⊥) × ((k : ℕ) (it : Coming) → IsAt log k it → it.cell ≡ to → ⊥)
      pub only : (to : Cell) → ways to ≡ way.Once → (k : ℕ) × (it : Coming) × IsAt log k it × (it.cell ≡ to) × (it.is_many ≡ false)
          × ((before : ℕ) (notes : List Note) → Done before to notes → (before ≡ it.before) × (notes ≡ it.notes))
      pub many : (to : Cell) → ways to ≡ way.Often → (k : ℕ) × (it : Coming) × IsAt log k it × (it.cell ≡ to) × (it.is_many ≡ true)
      pub onward : (j : ℕ) (from : Coming) (to : Cell) (notes : List Note) → Done (suc j) to notes → IsAt log j from → from.is_many ≡ true → ways to ≡ way.Often

    -- the arrivals that were tried when the first ones of a log, so many, have gone on: the one at the start, and those by hops from these
    abbrev pub Tried : (log : List Coming) → (i : ℕ) → (before : ℕ) → (to : Cell) → (notes : List Note) → Type 0
    Tried log i zero to notes = (to ≡ start) × (notes ≡ [])
    Tried log i (suc j) to notes = (j < i) × ((from : Coming) × IsAt log j from × Hop from.cell to notes)
