-- The different values and their numbers of uses.
use Rattle.std.specs.Prelude.{◌≡◌, ℕ, List, bytes_eq}
use Rattle.tt_base.specs.declared.span.SpanPart.{SpanPart}
use Rattle.tt_tables.specs.Uses.{same_part}
use Rattle.tt_pack.specs.declared.counted.CountedValues.{CountedValues}
use Rattle.tt_pack.specs.Counted.{counted}

-- the values are those of these uses, with their numbers
pub record HasCounted (values : CountedValues) (parts : List SpanPart) (symbols : List (List ℕ)) : Type 0 where
  pub all_parts : values.parts.entries ≡ counted same_part parts
  pub all_symbols : values.symbols.entries ≡ counted bytes_eq symbols
