-- Arrivals of a search are stuck where runs are.
use Rattle.std.proofs.Common.{◌≡◌, inl, inr, ◌+◌, ◌<◌, ℕ, suc, List, [], ◌∷◌, ◌++◌, length, refl, ap, sym, subst, ◌∙◌, arith}
use Rattle.std.proofs.lemmas.List.{length-drop}
use Rattle.std.specs.Prelude.{◌-◌, min}
use Rattle.mbe_matcher.specs.Fragments.{reach, taken}
use Rattle.mbe_matcher.specs.Marks.{Note, taken as took_by, begun, ended}
use Rattle.tt.specs.Forest.{Forest}
use Rattle.mbe_program.specs.Cells.{Hop, start}
use Rattle.mbe_program.specs.Moving.{AreMovesAt}
use Rattle.mbe_program.specs.Numbering.{HasMissed, IsStuckAt, part_at}
use Rattle.mbe_program.specs.Program.{Instruction, take, pass, enter, leave, begin, close}
use Rattle.mbe_program.specs.Runs.{Goes}
use Rattle.mbe_program.specs.Searching.{HaveAllGoneOn, log_of, ways_of}
use Rattle.mbe_program.specs.Stuck.{HasStuck, IsStuckCell}
use Rattle.mbe_program.specs.Tables.{IsTableOf, Table, passed_to}
use Rattle.mbe_program.specs.Ways.{Coming, IsAt, Tried}
use Rattle.mbe_program.specs.declared.cell.Cell.{Cell}
use Rattle.mbe_program.specs.declared.moves.Moves.TheVariants as moves
use Rattle.mbe_program.specs.declared.search.Search.{Search}
use Rattle.mbe_program.proofs.Arrived.{reached}
use Rattle.mbe_program.proofs.Arriving.{comes}
use Rattle.mbe_program.proofs.Hops.{Fits}
use Rattle.mbe_program.proofs.Landing.{arrives, has_come}
use Rattle.mbe_program.proofs.Levels.{left_of}
use Rattle.mbe_program.proofs.Paths.{at_within}
use Rattle.mbe_program.proofs.Telling.{decide, tells}

module _ (program : List Instruction) (table : Table) where
  -- No step leads on from a position in a level exactly where the trees are not what the instruction requires.
  pub nowhere_stuck : (it : Instruction) (rest : List Instruction) (n : ℕ) → 0 < n → AreMovesAt program table (it ∷ rest) n moves.Nowhere → IsStuckAt it (table.trees n)
  nowhere_stuck (take which) rest n some none = λ takes.
      none (record { position = passed_to table (reach which.fragment (table.trees n)) n; left = length rest }) (took_by (length rest) (taken which.fragment (table.trees n)) ∷ [])
      (some, takes, (refl, refl), refl)
  nowhere_stuck (pass its) rest n some none = λ like. none (record { position = passed_to table (length its) n; left = length rest }) [] (like, (refl, refl), refl)
  nowhere_stuck (enter kind) rest n some none = λ node. none (record { position = table.inside n; left = length rest }) [] (node, (refl, refl), refl)
  nowhere_stuck leave rest n some none = λ ended. none (record { position = table.outside n; left = length rest }) [] (some, ended, (refl, refl), refl)
  nowhere_stuck (begin op first behind) rest n some none =
      none (record { position = n; left = min first (length program) }) (begun behind ∷ []) (inl ((refl, refl), refl))
  nowhere_stuck (close op again) rest n some none = none (record { position = n; left = length rest }) (ended (length rest) ∷ []) (inr ((refl, refl), refl))

  pub stuck_nowhere : (it : Instruction) (rest : List Instruction) (n : ℕ) → IsStuckAt it (table.trees n) → AreMovesAt program table (it ∷ rest) n moves.Nowhere
  stuck_nowhere (take which) rest n stuck = λ to its hops. stuck hops.1
  stuck_nowhere (pass leaves) rest n stuck = λ to its hops. stuck hops.0
  stuck_nowhere (enter kind) rest n stuck = λ to its hops. stuck hops.0
  stuck_nowhere leave rest n stuck = λ to its hops. stuck hops.1
  stuck_nowhere (begin op first behind) rest n stuck = absurd stuck
  stuck_nowhere (close op again) rest n stuck = absurd stuck

module _ (program : List Instruction) (input : Forest) (table : Table) (is : IsTableOf program input table) (parts : List ℕ) (left number : ℕ) where
  -- As many instructions are left at a cell as its place has.
  place_length : (it : Cell) (place : List Instruction) (levels : List Forest) → Fits program input table is it place levels → length place ≡ it.left
  place_length it place levels fits =
      let count = ap length (sym fits.place_is) ∙ length-drop (length program - it.left) program in
      let within = fits.within in
      omega (arith, count, within)

  -- A cell is stuck exactly where a run is.
  cell_missed : (it : Cell) (place : List Instruction) (levels : List Forest) → Fits program input table is it place levels → IsStuckCell program table left it → part_at parts it.left ≡ number
      → HasMissed parts left number place levels
  cell_missed it [] levels fits stuck at =
      let none : 0 ≡ it.left = place_length it [] levels fits in
      let some = stuck.1 in
      absurd (omega (arith, none, some))
  cell_missed it (first ∷ rest) [] fits stuck at =
      let none : it.position ≡ 0 = fits.levels_are in
      let some = stuck.0 in
      absurd (omega (arith, none, some))
  cell_missed it (first ∷ rest) (trees ∷ outer) fits stuck at = (
    ap (part_at parts) (place_length it (first ∷ rest) (trees ∷ outer) fits) ∙ at,
    sym stuck.2 ∙ left_of program input table is it.position (trees ∷ outer) fits.levels_are,
    subst (IsStuckAt first) (sym fits.levels_are.2)
        (nowhere_stuck program table first rest it.position stuck.0 (subst (λ place. AreMovesAt program table place it.position moves.Nowhere) fits.place_is stuck.3)),
  )

  missed_cell : (it : Cell) (place : List Instruction) (levels : List Forest) → Fits program input table is it place levels → HasMissed parts left number place levels
      → IsStuckCell program table left it × (part_at parts it.left ≡ number)
  missed_cell it [] levels fits missed = absurd missed
  missed_cell it (first ∷ rest) [] fits missed = absurd missed
  missed_cell it (first ∷ rest) (trees ∷ outer) fits missed =
      let count : suc (length rest) ≡ it.left = place_length it (first ∷ rest) (trees ∷ outer) fits in (
        (
          fits.levels_are.0,
          omega (arith, count),
          left_of program input table is it.position (trees ∷ outer) fits.levels_are ∙ sym missed.1,
          subst (λ place. AreMovesAt program table place it.position moves.Nowhere) (sym fits.place_is)
              (stuck_nowhere program table first rest it.position (subst (IsStuckAt first) fits.levels_are.2 missed.2)),
        ),
        ap (part_at parts) (sym count) ∙ missed.0,
      )

  module _ (search : Search) (gone : HaveAllGoneOn program table search) where
    abbrev log : List (Coming Cell Note)
    log = log_of search

    abbrev Done : (before : ℕ) → Cell → List Note → Type 0
    Done = Tried Cell Note (start program table) (Hop program table) log (length log)

    goes : (j : ℕ) (from : Coming Cell Note) (to : Cell) (its : List Note) → IsAt Cell Note log j from → Hop program table from.cell to its → Done (suc j) to its
    goes j from to its there hop = (at_within Cell Note log j from there, (from, there, hop))

    -- So some arrival is stuck exactly if some run is.
    pub stuck_run : HasStuck program table left parts log number → (steps : ℕ) × (notes : List Note) × Goes program (HasMissed parts left number) steps program (input ∷ []) notes
    stuck_run (k, it, there, stuck, at) =
        let own = comes Cell Note (start program table) (Hop program table) (tells program table) decide (ways_of search) log Done gone.kept k it there in
        let come = has_come program input table is (HasMissed parts left number) own.0 it.cell own.1 own.2 in
        (own.0 + 0, own.1 ++ [], come.onward 0 [] (cell_missed it.cell come.place come.levels come.fits stuck at, refl))

    pub run_stuck : (steps : ℕ) (notes : List Note) → Goes program (HasMissed parts left number) steps program (input ∷ []) notes → HasStuck program table left parts log number
    run_stuck steps notes run =
        let last = arrives program input table is (HasMissed parts left number) steps notes run in
        let found = reached Cell Note (start program table) (Hop program table) (tells program table) decide (ways_of search) log Done gone.kept (refl, refl) goes steps last.to notes last.ways in
        let stuck = missed_cell last.to last.place last.levels last.fits last.is_last in (
          found.0,
          found.1,
          found.2,
          subst (IsStuckCell program table left) (sym found.3) stuck.0,
          ap (λ (it : Cell). part_at parts it.left) found.3 ∙ stuck.1,
        )
