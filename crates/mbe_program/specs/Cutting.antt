-- What is left of a pattern that is cut into pieces, part by part.
use Rattle.std.specs.Prelude.{◌≡◌, ℕ, suc, ◌+◌, List, [], ◌∷◌, ◌++◌, map, length, reverse}
use Rattle.tt.specs.Iters.{rest_of}
use Rattle.mbe_matcher.specs.Marks.{pass_count, step_count}
use Rattle.mbe_pattern.specs.Patterns.{Pattern}
use Rattle.mbe_pattern.specs.Placed.{pattern_of}
use Rattle.mbe_pattern.specs.declared.parts.Part.{Part}
use Rattle.mbe_pattern.specs.declared.parts.Part.TheVariants as part
use Rattle.mbe_program.specs.Pieces.{Bit, plain, begin, close, bit_of, bits_of, separator_bits}
use Rattle.mbe_program.specs.Program.{take, pass, enter, leave}
use Rattle.mbe_program.specs.declared.parse.Level.{Level}
use Rattle.mbe_program.specs.declared.parse.Parser.{Parser}

-- what is left of a subtree or a repetition, and the piece that ends it
pub record LevelLeft : Type 0 where
  pub rest : Pattern
  pub ending : Bit

abbrev pub level_of : Pattern → (ending : Bit) → LevelLeft
level_of rest ending = record { rest = rest; ending = ending }

abbrev pub level_left : Level → LevelLeft
level_left level = level_of (pattern_of (rest_of level.rest)) (bit_of level.ending)

-- the levels that are left, the innermost first
abbrev pub levels_left : List Level → List LevelLeft
levels_left levels = map level_left (reverse levels)

-- the pieces that are still to come, from that number on
abbrev pub bits_left : (at : ℕ) → List LevelLeft → List Bit
bits_left at [] = []
bits_left at (level ∷ outer) = bits_of at level.rest (level.ending ∷ bits_left (suc (at + step_count level.rest)) outer)

-- more pieces, and then the levels that are left
pub record Cut : Type 0 where
  pub bits : List Bit
  pub levels : List LevelLeft

-- one more piece, and the level after it
abbrev pub with_piece : Bit → LevelLeft → (outer : List LevelLeft) → Cut
with_piece bit level outer = record { bits = bit ∷ []; levels = level ∷ outer }

-- a part of a level, the next piece having that number, and the level that is left after it
abbrev pub cut_by : Part → (at : ℕ) → LevelLeft → (outer : List LevelLeft) → Cut
cut_by part.End at level outer = record { bits = level.ending ∷ []; levels = outer }
cut_by (part.Variable it) at level outer = with_piece (plain (take it)) level outer
cut_by (part.Token leaves) at level outer = with_piece (plain (pass leaves.items)) level outer
cut_by (part.Subtree kind inner) at level outer = with_piece (plain (enter kind)) (level_of (pattern_of (rest_of inner)) (plain leave)) (level ∷ outer)
cut_by (part.Repetition inner tail) at level outer =
    record {
      bits = begin tail.kind (suc at + pass_count (length tail.separator.items)) ∷ separator_bits tail.separator.items [];
      levels = level_of (pattern_of (rest_of inner)) (close tail.kind (suc at)) ∷ level ∷ outer;
    }

-- `next` is `old` with these pieces, and these levels are left
pub record IsCut (cut : Cut) (old next : Parser) : Type 0 where
  pub bits : map bit_of next.pieces.items ≡ map bit_of old.pieces.items ++ cut.bits
  pub levels : levels_left next.levels.items ≡ cut.levels
