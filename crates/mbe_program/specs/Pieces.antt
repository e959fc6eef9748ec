-- A pattern as a flat list of pieces, one for each instruction.
use Rattle.std.specs.Prelude.{ℕ, suc, ◌+◌, List, [], ◌∷◌, length}
use Rattle.tt.specs.Types.Leaf.{Leaf}
use Rattle.mbe_matcher.specs.Marks.{pass_count, step_count}
use Rattle.mbe_pattern.specs.Patterns.{Pattern, nothing, variable, token, subtree, repetition}
use Rattle.mbe_pattern.specs.declared.pattern.RepeatKind.{RepeatKind}
use Rattle.mbe_program.specs.Moving.{instruction_of}
use Rattle.mbe_program.specs.Program.{Instruction, take, pass, enter, leave}
use Rattle.mbe_program.specs.declared.parse.Piece.{Piece}
use Rattle.mbe_program.specs.declared.parse.Piece.TheVariants as piece

-- an instruction without jumps, or the beginning or the end of a repetition. Pieces are numbered from 0: the beginning says where its first
-- round begins, and the end where another one does
pub data Bit : Type 0 where
  plain : Instruction → Bit
  begin : RepeatKind → (first : ℕ) → Bit
  close : RepeatKind → (again : ℕ) → Bit

-- a piece as a bit
abbrev pub bit_of : Piece → Bit
bit_of (piece.Plain it) = plain (instruction_of it)
bit_of (piece.Begin op first) = begin op first
bit_of (piece.Close op again) = close op again

-- the separator, if there is one, before others
abbrev pub separator_bits : List Leaf → (behind : List Bit) → List Bit
separator_bits [] behind = behind
separator_bits (it ∷ others) behind = plain (pass (it ∷ others)) ∷ behind

-- the pieces of a pattern from that number on, before others
abbrev pub bits_of : (at : ℕ) → Pattern → (behind : List Bit) → List Bit
bits_of at nothing behind = behind
bits_of at (variable it others) behind = plain (take it) ∷ bits_of (suc at) others behind
bits_of at (token its others) behind = plain (pass its) ∷ bits_of (suc at) others behind
bits_of at (subtree kind inner others) behind =
    plain (enter kind) ∷ bits_of (suc at) inner (plain leave ∷ bits_of (suc (suc at + step_count inner)) others behind)
bits_of at (repetition inner separator op others) behind =
    begin op (suc at + pass_count (length separator))
    ∷ separator_bits separator
    (bits_of (suc at + pass_count (length separator)) inner
    (close op (suc at) ∷ bits_of (suc (suc at + pass_count (length separator) + step_count inner)) others behind))

-- the pieces of a whole pattern
abbrev pub all_bits : Pattern → List Bit
all_bits pattern = bits_of 0 pattern (plain leave ∷ [])
