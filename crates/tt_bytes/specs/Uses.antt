-- The numbers of uses of a table's values, use by use.
use Rattle.std.specs.List.{IsDistinct, list_any}
use Rattle.std.specs.Prelude.{◌≡◌, ℕ, ◌+◌, ◌<◌, ◌≤◌, false, bytes_eq, List, [], ◌∷◌, ◌++◌, Some, length, map, set, slice_get}
use Rattle.tt_base.specs.declared.span.Span.{Span}
use Rattle.tt_base.specs.declared.span.SpanPart.{SpanPart}
use Rattle.tt_base.specs.Fits.{SpanInRange}
use Rattle.tt_base.specs.Span.{part_of}
use Rattle.tt_bytes.specs.declared.uses.SymbolUses.{SymbolUses}
use Rattle.tt_codec.specs.declared.span.SpanNumbers.{SpanNumbers}
use Rattle.tt_tables.specs.Searches.{FindsSpan}
use Rattle.tt_tables.specs.TableOrder.{different, uses_of}
use Rattle.tt_tables.specs.Tables.{tables_from}
use Rattle.tt_tables.specs.Uses.{same_part}

-- the mark of a symbol that has no place yet
abbrev pub no_place : ℕ
no_place = 4294967295

-- the number at an index is one more
abbrev pub IsOneMoreAt : (old : List ℕ) (index : ℕ) (new : List ℕ) → Type 0
IsOneMoreAt old index new = (n : ℕ) × (slice_get old index ≡ Some n) × (new ≡ set old index (n + 1))

-- the parts are all different, and these are their numbers of uses
pub record AreUsed (parts : List SpanPart) (numbers : List ℕ) (uses : List SpanPart) : Type 0 where
  pub distinct : IsDistinct same_part parts
  pub counted : numbers ≡ map (uses_of same_part uses) parts

-- the numbers name a span in range, and its part has one more use
pub record UsesSpan (parts : List SpanPart) (numbers : SpanNumbers) (counts : List ℕ) (before : List SpanPart) : Type 0 where
  pub span : Span
  pub found : (symbols : List (List ℕ)) → FindsSpan (tables_from parts symbols) numbers span
  pub range : SpanInRange span
  pub used : AreUsed parts counts (before ++ part_of span ∷ [])

-- each value stays at its place
abbrev pub Stay : {X : Type 0} → (old new : List X) → Type 0
Stay {X} old new = (i : ℕ) (x : X) → slice_get old i ≡ Some x → slice_get new i ≡ Some x

-- each symbol of the table that has a place is at that place among the used symbols; the others are not used
abbrev pub ArePlaced : (table : List (List ℕ)) (places : List ℕ) (order : List (List ℕ)) → Type 0
ArePlaced table places order =
    (i n : ℕ) (text : List ℕ) → slice_get table i ≡ Some text → slice_get places i ≡ Some n
    → (n < no_place → slice_get order n ≡ Some text) × (no_place ≤ n → list_any (bytes_eq text) order ≡ false)

-- the table's symbols are all different; the used ones are in the order of their first uses, each with its number of uses
pub record HaveUses (table : List (List ℕ)) (it : SymbolUses) (uses : List (List ℕ)) : Type 0 where
  pub distinct : IsDistinct bytes_eq table
  pub long : length it.places.items ≡ length table
  pub placed : ArePlaced table it.places.items it.order.items
  pub in_order : it.order.items ≡ different bytes_eq uses
  pub counted : it.numbers.items ≡ map (uses_of bytes_eq uses) it.order.items

-- the symbol at an index of the table has one more use, and is at that place
pub record UsesSymbol (table : List (List ℕ)) (index place : ℕ) (old new : SymbolUses) (before : List (List ℕ)) : Type 0 where
  pub text : List ℕ
  pub there : slice_get table index ≡ Some text
  pub stands : slice_get new.order.items place ≡ Some text
  pub stay : Stay old.order.items new.order.items
  pub used : HaveUses table new (before ++ text ∷ [])
