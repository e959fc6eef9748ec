-- Few values, found by comparison.
use Rattle.std.specs.Prelude.{◌≡◌, ◌≤◌, ℕ, List, length, bytes_eq}
use Rattle.tt_base.specs.declared.span.SpanPart.{SpanPart}
use Rattle.tt_tables.specs.TableOrder.{different}
use Rattle.tt_tables.specs.Tables.{short_parts}
use Rattle.tt_tables.specs.Uses.{same_part}
use Rattle.tt_pack.specs.declared.few.FewValues.{FewValues}

-- the values are the different ones of these uses, in the order of first uses, and they are few
pub record HasNoted (values : FewValues) (parts : List SpanPart) (symbols : List (List ℕ)) : Type 0 where
  pub all_parts : values.parts.items ≡ different same_part parts
  pub all_symbols : values.symbols.items ≡ different bytes_eq symbols
  pub few_parts : length values.parts.items ≤ short_parts
  pub few_symbols : length values.symbols.items ≤ 24
