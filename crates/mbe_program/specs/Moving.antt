-- Instructions as definitions, and the steps that are found from a cell.
use Rattle.std.specs.Prelude.{◌≡◌, ◌⊎◌, ℕ, List, [], ◌∷◌, map, length, Option, None, Some}
use Rattle.mbe_matcher.specs.Marks.{Note, note_of}
use Rattle.mbe_program.specs.Cells.{HopsFrom}
use Rattle.mbe_program.specs.Program.{Instruction, take, pass, enter, leave, begin, close, place_at}
use Rattle.mbe_program.specs.Tables.{Table}
use Rattle.mbe_program.specs.declared.cell.Cell.{Cell}
use Rattle.mbe_program.specs.declared.instruction.Instruction.{Instruction as Own}
use Rattle.mbe_program.specs.declared.instruction.Instruction.TheVariants as own
use Rattle.mbe_program.specs.declared.moves.Move.{Move}
use Rattle.mbe_program.specs.declared.moves.Moves.{Moves}
use Rattle.mbe_program.specs.declared.moves.Moves.TheVariants as moves
use Rattle.mbe_matcher.specs.declared.mark.Mark.{Mark}

-- an instruction of the code
abbrev pub instruction_of : Own → Instruction
instruction_of (own.Take which) = take which
instruction_of (own.Pass its) = pass its.items
instruction_of (own.Enter kind) = enter kind
instruction_of own.Leave = leave
instruction_of (own.Begin op first behind) = begin op first behind
instruction_of (own.Close op again) = close op again

abbrev pub instructions_of : List Own → List Instruction
instructions_of its = map instruction_of its

-- the notes of a step's mark, if it has one
abbrev pub notes_of_mark : Option Mark → List Note
notes_of_mark None = []
notes_of_mark (Some it) = note_of it ∷ []

-- it is the step to that cell with these notes
abbrev pub IsMove : Move → Cell → List Note → Type 0
IsMove it to its = (to ≡ it.to) × (its ≡ notes_of_mark it.mark)

-- these are the steps from a place before a position
abbrev pub AreMovesAt : (program : List Instruction) → Table → (place : List Instruction) → (n : ℕ) → Moves → Type 0
AreMovesAt program table place n moves.Nowhere = (to : Cell) → (its : List Note) → HopsFrom program table place n to its → ⊥
AreMovesAt program table place n (moves.One it) =
    HopsFrom program table place n it.to (notes_of_mark it.mark) × ((to : Cell) → (its : List Note) → HopsFrom program table place n to its → IsMove it to its)
AreMovesAt program table place n (moves.Two it other) =
    HopsFrom program table place n it.to (notes_of_mark it.mark) × HopsFrom program table place n other.to (notes_of_mark other.mark)
    × (notes_of_mark it.mark ≡ notes_of_mark other.mark → ⊥)
    × ((to : Cell) → (its : List Note) → HopsFrom program table place n to its → IsMove it to its ⊎ IsMove other to its)

-- these are the steps from a cell
abbrev pub AreMoves : (program : List Instruction) → Table → Cell → Moves → Type 0
AreMoves program table from moves = AreMovesAt program table (place_at program from.left) from.position moves

-- these are the steps of an instruction before a position, in a program of that many instructions, so many of them after it
abbrev pub AreMovesOf : Table → (it : Instruction) → (n all behind : ℕ) → Moves → Type 0
AreMovesOf table it n all behind moves = (program rest : List Instruction) → length program ≡ all → length rest ≡ behind → AreMovesAt program table (it ∷ rest) n moves
