-- The steps of a search from cell to cell: a cell is a place of a program before a numbered position of an input.
use Rattle.std.specs.Prelude.{◌≡◌, ◌⊎◌, ◌<◌, min, ℕ, true, List, [], ◌∷◌, length}
use Rattle.mbe_matcher.specs.Fragments.{takes, reach, taken}
use Rattle.mbe_matcher.specs.Marks.{Note, taken as took_by, begun, ended}
use Rattle.mbe_pattern.specs.Patterns.{may_be_none, may_be_more}
use Rattle.mbe_pattern.specs.Units.{IsUnitLike, IsNodeOf}
use Rattle.tt.specs.Forest.{end}
use Rattle.mbe_program.specs.Tables.{Table, passed_to}
use Rattle.mbe_program.specs.declared.cell.Cell.{Cell}
use Rattle.mbe_program.specs.Program.{Instruction, take, pass, enter, leave, begin, close, place_at}

-- it is the cell at that position with so many instructions left
abbrev pub IsCell : Cell → (position left : ℕ) → Type 0
IsCell it position left = (it.position ≡ position) × (it.left ≡ left)

module _ (program : List Instruction) (table : Table) where
  -- one step leads from a place before a position to a cell, and notes this
  abbrev pub HopsFrom : (place : List Instruction) → (n : ℕ) → Cell → List Note → Type 0
  HopsFrom [] n to its = ⊥
  HopsFrom (take which ∷ rest) n to its =
      (0 < n) × (takes which.fragment (table.trees n) ≡ true) × IsCell to (passed_to table (reach which.fragment (table.trees n)) n) (length rest)
      × (its ≡ took_by (length rest) (taken which.fragment (table.trees n)) ∷ [])
  HopsFrom (pass leaves ∷ rest) n to its = IsUnitLike leaves (table.trees n) × IsCell to (passed_to table (length leaves) n) (length rest) × (its ≡ [])
  HopsFrom (enter kind ∷ rest) n to its = IsNodeOf kind (table.trees n) × IsCell to (table.inside n) (length rest) × (its ≡ [])
  HopsFrom (leave ∷ rest) n to its = (0 < n) × (table.trees n ≡ end) × IsCell to (table.outside n) (length rest) × (its ≡ [])
  HopsFrom (begin op first behind ∷ rest) n to its =
      (IsCell to n (min first (length program)) × (its ≡ begun behind ∷ []))
      ⊎ ((may_be_none op ≡ true) × IsCell to n (min behind (length program)) × (its ≡ ended behind ∷ []))
  HopsFrom (close op again ∷ rest) n to its =
      ((may_be_more op ≡ true) × IsCell to n (min again (length program)) × (its ≡ begun (length rest) ∷ []))
      ⊎ (IsCell to n (length rest) × (its ≡ ended (length rest) ∷ []))

  abbrev pub Hop : Cell → Cell → List Note → Type 0
  Hop from to its = HopsFrom (place_at program from.left) from.position to its

  -- where a search begins, and where it ends
  abbrev pub start : Cell
  start = record { position = 1; left = length program }

  abbrev pub finish : Cell
  finish = record { position = 0; left = 0 }
