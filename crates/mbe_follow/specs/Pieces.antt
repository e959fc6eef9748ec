-- A pattern as a flat list of pieces, and what is left of it while it is cut.
use Rattle.std.specs.Prelude.{◌≡◌, ◌+◌, ℕ, List, [], ◌∷◌, ◌++◌, length, map, reverse, Option, None, Some}
use Rattle.tt.specs.Iters.{rest_of}
use Rattle.mbe_pattern.specs.declared.dollar.Tail.{Tail}
use Rattle.mbe_pattern.specs.declared.parts.Part.{Part}
use Rattle.mbe_pattern.specs.declared.parts.Part.TheVariants as part
use Rattle.mbe_pattern.specs.Patterns.{Pattern, nothing, variable, token, subtree, repetition}
use Rattle.mbe_pattern.specs.Placed.{pattern_of}
use Rattle.mbe_follow.specs.declared.layout.Layout.{Layout}
use Rattle.mbe_follow.specs.declared.layout.Level.{Level}
use Rattle.mbe_follow.specs.declared.layout.Piece.{Piece}
use Rattle.mbe_follow.specs.declared.layout.Piece.TheVariants as piece
use Rattle.mbe_follow.specs.Following.{begins_with_crate, separator_next, token_next, subtree_next, after_separator, after_pattern}

-- the pieces of a pattern whose first part has that number, before others
abbrev pub pieces_of : (number : ℕ) → Pattern → (behind : List Piece) → List Piece
pieces_of number nothing behind = behind
pieces_of number (variable it others) behind = piece.Variable number it.fragment ∷ pieces_of (number + 1) others behind
pieces_of number (token its others) behind = piece.Token (token_next number its (begins_with_crate others)) ∷ pieces_of (number + 1) others behind
pieces_of number (subtree kind inner others) behind =
    piece.Enter (subtree_next number kind) ∷ pieces_of (number + 1) inner (piece.Leave ∷ pieces_of (after_pattern (number + 1) inner) others behind)
pieces_of number (repetition inner separator op others) behind =
    let after = after_pattern (number + 1) inner in
    piece.Begin op ∷ pieces_of (number + 1) inner (piece.Close (separator_next after separator) ∷ pieces_of (after_separator after separator) others behind)

-- the pieces of a whole pattern
abbrev pub all_pieces : Pattern → List Piece
all_pieces pattern = pieces_of 0 pattern (piece.Leave ∷ [])

-- what is left of a subtree or a repetition, and how it is closed
pub record LevelLeft : Type 0 where
  pub rest : Pattern
  pub closing : Option Tail

abbrev pub level_left : Level → LevelLeft
level_left level = record { rest = pattern_of (rest_of level.rest); closing = level.closing }

-- the levels that are left, the innermost first
abbrev pub levels_left : List Level → List LevelLeft
levels_left levels = map level_left (reverse levels)

-- the end of a level, and the number of the next part after it
abbrev pub end_piece : (number : ℕ) → Option Tail → Piece
end_piece number None = piece.Leave
end_piece number (Some tail) = piece.Close (separator_next number tail.separator.items)

abbrev pub after_end : (number : ℕ) → Option Tail → ℕ
after_end number None = number
after_end number (Some tail) = after_separator number tail.separator.items

-- the pieces that are still to come, and the number after them
abbrev pub pieces_left : (number : ℕ) → List LevelLeft → List Piece
pieces_left number [] = []
pieces_left number (level ∷ outer) =
    let after = after_pattern number level.rest in
    pieces_of number level.rest (end_piece after level.closing ∷ pieces_left (after_end after level.closing) outer)

abbrev pub after_levels : (number : ℕ) → List LevelLeft → ℕ
after_levels number [] = number
after_levels number (level ∷ outer) = after_levels (after_end (after_pattern number level.rest) level.closing) outer

-- one more piece, the number of the next part, and the levels that are then left
pub record Step : Type 0 where
  pub piece : Piece
  pub number : ℕ
  pub levels : List LevelLeft

-- a level
abbrev pub level_of : Pattern → Option Tail → LevelLeft
level_of rest closing = record { rest = rest; closing = closing }

-- the end of a level, given the number of the next part
abbrev pub ended : (number : ℕ) → Option Tail → (outer : List LevelLeft) → Step
ended number closing outer = record { piece = end_piece number closing; number = after_end number closing; levels = outer }

-- the part that was read from a level, given what is left of the level
abbrev pub stepped : (number : ℕ) → Part → LevelLeft → (outer : List LevelLeft) → Step
stepped number part.End level outer = ended number level.closing outer
stepped number (part.Variable it) level outer = record { piece = piece.Variable number it.fragment; number = number + 1; levels = level ∷ outer }
stepped number (part.Token leaves) level outer =
    record { piece = piece.Token (token_next number leaves.items (begins_with_crate level.rest)); number = number + 1; levels = level ∷ outer }
stepped number (part.Subtree kind inner) level outer =
    record { piece = piece.Enter (subtree_next number kind); number = number + 1; levels = level_of (pattern_of (rest_of inner)) None ∷ level ∷ outer }
stepped number (part.Repetition inner tail) level outer =
    record { piece = piece.Begin tail.kind; number = number + 1; levels = level_of (pattern_of (rest_of inner)) (Some tail) ∷ level ∷ outer }

-- `next` is `old` after the step
pub record IsStepped (step : Step) (old next : Layout) : Type 0 where
  pub pieces : next.pieces.items ≡ old.pieces.items ++ step.piece ∷ []
  pub number : length next.spans.items ≡ step.number
  pub levels : levels_left next.levels.items ≡ step.levels
