-- The uses of span parts and symbols in the tokens that a builder holds. The top and the close span of an open subtree do not count.
use Rattle.std.specs.Prelude.{List, ℕ, ◌∷◌, ◌++◌, length, bytes_eq}
use Rattle.tt_base.specs.declared.span.SpanPart.{SpanPart}
use Rattle.tt_base.specs.Building.{Stack, lowest, above}
use Rattle.tt_base.specs.Forest.{flat}
use Rattle.tt_base.specs.Span.{part_of}
use Rattle.tt_tables.specs.TableOrder.{different}
use Rattle.tt_tables.specs.Uses.{same_part, part_uses, symbol_uses}

-- the uses of span parts
abbrev pub held_parts : Stack → List SpanPart
held_parts (lowest trees) = part_uses (flat trees)
held_parts (above outer kind open_span trees) = held_parts outer ++ part_of open_span ∷ part_uses (flat trees)

-- the uses of symbols
abbrev pub held_symbols : Stack → List (List ℕ)
held_symbols (lowest trees) = symbol_uses (flat trees)
held_symbols (above outer kind open_span trees) = held_symbols outer ++ symbol_uses (flat trees)

-- the number of different span parts
abbrev pub distinct_parts : Stack → ℕ
distinct_parts stack = length (different same_part (held_parts stack))

-- the number of different symbols
abbrev pub distinct_symbols : Stack → ℕ
distinct_symbols stack = length (different bytes_eq (held_symbols stack))
