-- A search as ways, in a row for each position, and a log of arrivals.
use Rattle.std.specs.Prelude.{◌≡◌, ◌⊎◌, ◌+◌, ◌*◌, ◌<◌, ◌≤◌, ℕ, suc, List, [], ◌∷◌, map, length, nat_lt, slice_index_or, if◌then◌else◌}
use Rattle.mbe_matcher.specs.Marks.{Note}
use Rattle.tt.specs.Forest.{Forest}
use Rattle.mbe_program.specs.Cells.{IsCell, Hop, start}
use Rattle.mbe_program.specs.Tables.{Table, IsTableOf}
use Rattle.mbe_program.specs.Moving.{notes_of_mark}
use Rattle.mbe_program.specs.Program.{Instruction}
use Rattle.mbe_program.specs.Ways.{Coming, IsAt, IsKept, Tried}
use Rattle.mbe_program.specs.declared.cell.Cell.{Cell}
use Rattle.mbe_program.specs.declared.moves.Move.{Move}
use Rattle.mbe_program.specs.declared.search.Arrival.{Arrival}
use Rattle.mbe_program.specs.declared.search.Search.{Search}
use Rattle.mbe_program.specs.declared.search.Way.{Way}
use Rattle.mbe_program.specs.declared.search.Way.TheVariants as way

-- an arrival, with the notes of its last step
abbrev pub coming_of : Arrival → Coming Cell Note
coming_of it = record { cell = it.cell; before = it.before; notes = notes_of_mark it.mark; is_many = it.is_many }

abbrev pub log_of : Search → List (Coming Cell Note)
log_of search = map coming_of search.log.items

-- the number of a cell, in rows of that width, one for each position
abbrev pub index_in : (width : ℕ) → Cell → ℕ
index_in width it = it.position * width + it.left

-- how many ways to a cell are known
abbrev pub way_in : (width : ℕ) → (cells : List Way) → Cell → Way
way_in width cells it = if nat_lt it.left width then slice_index_or cells (index_in width it) way.Unseen else way.Unseen

abbrev pub ways_of : Search → Cell → Way
ways_of search = way_in search.width search.cells.items

-- the search has a way for that cell
abbrev pub HasCell : Search → Cell → Type 0
HasCell search it = (it.left < search.width) × (index_in search.width it < length search.cells.items)

-- the search has rows of that width, so many
abbrev pub HasRows : (count width : ℕ) → Search → Type 0
HasRows count width search = (search.width ≡ width) × (length search.cells.items ≡ count * width)

-- the rows of two searches are alike
abbrev pub AreAlike : (one other : Search) → Type 0
AreAlike one other = (one.width ≡ other.width) × (length one.cells.items ≡ length other.cells.items)

-- how many arrivals there are at most
abbrev pub way_weight : Way → ℕ
way_weight way.Unseen = 0
way_weight way.Once = 1
way_weight way.Often = 2

abbrev pub ways_weight : List Way → ℕ
ways_weight [] = 0
ways_weight (it ∷ others) = way_weight it + ways_weight others

-- the log has no more arrivals than the known ways allow
abbrev pub IsRoomy : Search → Type 0
IsRoomy search = length (log_of search) ≤ ways_weight search.cells.items

-- the table is of some input, for the program
abbrev pub IsTable : (program : List Instruction) → Table → Type 0
IsTable program table = (input : Forest) × IsTableOf program input table

-- the first arrivals of the log, so many, have gone on
pub record HaveGoneOn (program : List Instruction) (table : Table) (i : ℕ) (search : Search) : Type 0 where
  pub kept : IsKept Cell Note (start program table) (Hop program table) (ways_of search) (log_of search) (Tried Cell Note (start program table) (Hop program table) (log_of search) i)
  pub upto : i ≤ length (log_of search)
  pub sized : HasRows table.count (suc (length program)) search
  pub roomy : IsRoomy search
  pub inside : (k : ℕ) (it : Coming Cell Note) → IsAt Cell Note (log_of search) k it → (it.cell.position < table.count) × (it.cell.left ≤ length program)

-- all arrivals have gone on
abbrev pub HaveAllGoneOn : (program : List Instruction) → Table → Search → Type 0
HaveAllGoneOn program table search = HaveGoneOn program table (length (log_of search)) search

-- the arrival by a step from the arrival of that number
abbrev pub coming_by : Coming Cell Note → (number : ℕ) → Move → Coming Cell Note
coming_by from number step = record { cell = step.to; before = suc number; notes = notes_of_mark step.mark; is_many = from.is_many }

-- the fewest tokens that are left at these arrivals, or so many if all have more left
pub record IsFewest (table : Table) (most : ℕ) (log : List (Coming Cell Note)) (left : ℕ) : Type 0 where
  pub upto : left ≤ most
  pub found : (left ≡ most) ⊎ ((k : ℕ) × (it : Coming Cell Note) × IsAt Cell Note log k it × (left ≡ table.left it.cell.position))
  pub least : (k : ℕ) (it : Coming Cell Note) → IsAt Cell Note log k it → left ≤ table.left it.cell.position

-- each arrival comes from one that was logged before it
abbrev pub AreInOrder : (log : List (Coming Cell Note)) → Type 0
AreInOrder log = (k : ℕ) → (it : Coming Cell Note) → IsAt Cell Note log k it → it.before ≤ k

-- the arrival of that number is at the last cell: nothing is left of the program, outside of all levels
abbrev pub EndsAt : (log : List (Coming Cell Note)) → (k : ℕ) → Type 0
EndsAt log k = (it : Coming Cell Note) × IsAt Cell Note log k it × IsCell it.cell 0 0
