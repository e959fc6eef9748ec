-- Part by part, what is left of a pattern is cut, and becomes less.
use Rattle.std.proofs.Common.{◌≡◌, ◌+◌, ◌*◌, ◌<◌, ℕ, suc, List, [], ◌∷◌, ◌++◌, map, Option, ap, sym, ◌∙◌, arith, append_assoc}
use Rattle.std.proofs.lemmas.List.{reverse-append}
use Rattle.mbe_pattern.specs.declared.dollar.Tail.{Tail}
use Rattle.mbe_pattern.specs.declared.parts.Part.{Part}
use Rattle.mbe_pattern.specs.declared.parts.Part.TheVariants as part
use Rattle.mbe_pattern.specs.Dollars.{IsPart}
use Rattle.mbe_pattern.specs.Patterns.{Pattern, nothing, variable, token, subtree, repetition}
use Rattle.mbe_follow.specs.declared.layout.Level.{Level}
use Rattle.mbe_follow.specs.declared.layout.Piece.{Piece}
use Rattle.mbe_follow.specs.Pieces.{LevelLeft, level_of, level_left, levels_left, end_piece, after_end, pieces_of, pieces_left, after_levels, stepped}
use Rattle.mbe_follow.specs.Following.{after_pattern}

-- how many parts a pattern has, at any depth
abbrev pub parts : Pattern → ℕ
parts nothing = 0
parts (variable it others) = suc (parts others)
parts (token its others) = suc (parts others)
parts (subtree kind inner others) = suc (parts inner + parts others)
parts (repetition inner separator op others) = suc (parts inner + parts others)

-- how much of the levels is still to be read
abbrev pub work_of : List LevelLeft → ℕ
work_of [] = 0
work_of (level ∷ outer) = suc (2 * parts level.rest + work_of outer)

-- The last level is the innermost.
pub levels_last : (its : List Level) (it : Level) → levels_left (its ++ it ∷ []) ≡ level_left it ∷ levels_left its
levels_last its it = ap (map level_left) (reverse-append its (it ∷ []))

module _ (number : ℕ) (whole others : Pattern) (closing : Option Tail) (outer : List LevelLeft) where
  -- A part, and what is left after it, are what was left before.
  pub left_step : (found : Part) → IsPart whole found others
      → (stepped number found (level_of others closing) outer).piece
      ∷ pieces_left (stepped number found (level_of others closing) outer).number (stepped number found (level_of others closing) outer).levels
      ≡ pieces_left number (level_of whole closing ∷ outer)
  left_step part.End is =
      ap (λ t. pieces_of number t (end_piece (after_pattern number t) closing ∷ pieces_left (after_end (after_pattern number t) closing) outer)) (sym is)
  left_step (part.Variable it) is =
      ap (λ t. pieces_of number t (end_piece (after_pattern number t) closing ∷ pieces_left (after_end (after_pattern number t) closing) outer)) (sym is)
  left_step (part.Token leaves) is =
      ap (λ t. pieces_of number t (end_piece (after_pattern number t) closing ∷ pieces_left (after_end (after_pattern number t) closing) outer)) (sym is)
  left_step (part.Subtree kind inner) is =
      ap (λ t. pieces_of number t (end_piece (after_pattern number t) closing ∷ pieces_left (after_end (after_pattern number t) closing) outer)) (sym is)
  left_step (part.Repetition inner tail) is =
      ap (λ t. pieces_of number t (end_piece (after_pattern number t) closing ∷ pieces_left (after_end (after_pattern number t) closing) outer)) (sym is)

  -- The number after all of it stays the same.
  pub number_step : (found : Part) → IsPart whole found others
      → after_levels (stepped number found (level_of others closing) outer).number (stepped number found (level_of others closing) outer).levels
      ≡ after_levels number (level_of whole closing ∷ outer)
  number_step part.End is = ap (λ t. after_levels (after_end (after_pattern number t) closing) outer) (sym is)
  number_step (part.Variable it) is = ap (λ t. after_levels (after_end (after_pattern number t) closing) outer) (sym is)
  number_step (part.Token leaves) is = ap (λ t. after_levels (after_end (after_pattern number t) closing) outer) (sym is)
  number_step (part.Subtree kind inner) is = ap (λ t. after_levels (after_end (after_pattern number t) closing) outer) (sym is)
  number_step (part.Repetition inner tail) is = ap (λ t. after_levels (after_end (after_pattern number t) closing) outer) (sym is)

  -- Less is left to read after it.
  pub less_step : (found : Part) → IsPart whole found others
      → work_of (stepped number found (level_of others closing) outer).levels < work_of (level_of whole closing ∷ outer)
  less_step part.End is = omega arith
  less_step (part.Variable it) is = omega (arith, ap parts is)
  less_step (part.Token leaves) is = omega (arith, ap parts is)
  less_step (part.Subtree kind inner) is = omega (arith, ap parts is)
  less_step (part.Repetition inner tail) is = omega (arith, ap parts is)

  -- So the whole stays the same.
  pub whole_step : (pieces all : List Piece) (found : Part) → IsPart whole found others → pieces ++ pieces_left number (level_of whole closing ∷ outer) ≡ all
      → (pieces ++ (stepped number found (level_of others closing) outer).piece ∷ [])
      ++ pieces_left (stepped number found (level_of others closing) outer).number (stepped number found (level_of others closing) outer).levels
      ≡ all
  whole_step pieces all found is before =
      let step = stepped number found (level_of others closing) outer in
      append_assoc pieces (step.piece ∷ []) (pieces_left step.number step.levels) ∙ ap (λ l. pieces ++ l) (left_step found is) ∙ before
