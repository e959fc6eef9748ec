-- The arrival of a number goes on in a search.
use Rattle.std.proofs.Common.{◌≡◌, ◌<◌, ◌≤◌, ℕ, suc, List, length, get_or, ap, subst, arith}
use Rattle.std.proofs.lemmas.List.{length-map}
use Rattle.mbe_matcher.specs.Marks.{Note}
use Rattle.mbe_program.specs.Cells.{Hop}
use Rattle.mbe_program.specs.Moving.{AreMoves, instruction_of, instructions_of, notes_of_mark}
use Rattle.mbe_program.specs.Searching.{log_of, ways_of, coming_of, coming_by, AreAlike, HasCell, IsRoomy, IsTable, HaveGoneOn}
use Rattle.mbe_program.specs.Tables.{Table}
use Rattle.mbe_program.specs.Ways.{Coming, IsAt, IsAdded}
use Rattle.mbe_program.specs.declared.cell.Cell.{Cell}
use Rattle.mbe_program.specs.declared.instruction.Instruction.{Instruction as Own}
use Rattle.mbe_program.specs.declared.moves.Move.{Move}
use Rattle.mbe_program.specs.declared.moves.Moves.TheVariants as moves
use Rattle.mbe_program.specs.declared.search.Arrival.{Arrival}
use Rattle.mbe_program.specs.declared.search.Search.{Search}
use Rattle.mbe_program.proofs.Expanding.{hop_inside, went_nowhere, went_one, went_two}
use Rattle.mbe_program.proofs.Fewest.{logged_at}
use Rattle.mbe_program.proofs.Indices.{has_cell}

module _ (program : List Own) (table : Table) (number : ℕ) (old : Search) (from : Arrival) (is : IsTable (instructions_of program) table) (gone : HaveGoneOn (instructions_of program) table number old)
    (less : number < length old.log.items) (own : from ≡ get_or old.log.items number from) where
  there : IsAt Cell Note (log_of old) number (coming_of from)
  there = logged_at old.log.items number from less own

  upto : suc number ≤ length (log_of old)
  upto = let count = length-map old.log.items coming_of in omega (arith, count, less)

  -- Its cell is one of the program,
  pub from_within : from.cell.left ≤ length program
  from_within = let within = (gone.inside number (coming_of from) there).1 in let count = length-map program instruction_of in omega (arith, within, count)

  -- and so is the cell of an arrival by a step.
  pub next_within : (step : Move) (next : Arrival) → coming_of next ≡ coming_by (coming_of from) number step → Hop (instructions_of program) table from.cell step.to (notes_of_mark step.mark)
      → HasCell old next.cell
  next_within step next same hop =
      let inside = hop_inside (instructions_of program) table is.0 is.1 from.cell step.to (notes_of_mark step.mark) (gone.inside number (coming_of from) there).0 hop in
      let position = inside.0 in
      let left = inside.1 in
      let position_is : next.cell.position ≡ step.to.position = ap (λ (it : Coming Cell Note). it.cell.position) same in
      let left_is : next.cell.left ≡ step.to.left = ap (λ (it : Coming Cell Note). it.cell.left) same in
      has_cell old table.count (suc (length (instructions_of program))) gone.sized next.cell (omega (arith, position, position_is)) (omega (arith, left, left_is))

  -- what one more arrival by a step changes
  abbrev pub IsStep : (before after : Search) → (next : Arrival) → Type 0
  IsStep before after next =
      IsAdded Cell Note (coming_of next) (ways_of before) (log_of before) (ways_of after) (log_of after) × IsRoomy after × AreAlike after before

  added_by : (before after : Search) (next : Arrival) (step : Move) → coming_of next ≡ coming_by (coming_of from) number step → IsStep before after next
      → IsAdded Cell Note (coming_by (coming_of from) number step) (ways_of before) (log_of before) (ways_of after) (log_of after)
  added_by before after next step same added =
      subst (λ (it : Coming Cell Note). IsAdded Cell Note it (ways_of before) (log_of before) (ways_of after) (log_of after)) same added.0

  -- It leads nowhere,
  pub on_nowhere : AreMoves (instructions_of program) table from.cell moves.Nowhere → HaveGoneOn (instructions_of program) table (suc number) old
  on_nowhere none = went_nowhere (instructions_of program) table is.0 is.1 number old (coming_of from) there gone none upto

  -- to one cell,
  pub on_one : (new : Search) (step : Move) (next : Arrival) → AreMoves (instructions_of program) table from.cell (moves.One step) → coming_of next ≡ coming_by (coming_of from) number step
      → IsStep old new next → HaveGoneOn (instructions_of program) table (suc number) new
  on_one new step next are same added =
      went_one (instructions_of program) table is.0 is.1 number old (coming_of from) there gone new step upto are.0 are.1 (added_by old new next step same added) added.1 added.2

  -- or to two.
  pub on_two : (middle new : Search) (one other : Move) (next last : Arrival) → AreMoves (instructions_of program) table from.cell (moves.Two one other)
      → coming_of next ≡ coming_by (coming_of from) number one → coming_of last ≡ coming_by (coming_of from) number other → IsStep old middle next → IsStep middle new last
      → HaveGoneOn (instructions_of program) table (suc number) new
  on_two middle new one other next last are same also added added_too =
      went_two (instructions_of program) table is.0 is.1 number old (coming_of from) there gone middle new one other upto are.0 are.1 are.2 are.3
      (added_by old middle next one same added) added.1 added.2 (added_by middle new last other also added_too) added_too.1 added_too.2
