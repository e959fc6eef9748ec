-- How the bytes of a token in numbers are written and read.
use Rattle.std.specs.Borrow.{Bor}
use Rattle.std.specs.Prelude.{List, ℕ, ◌/◌, ◌%◌, ◌==◌, if◌then◌else◌, Bool, false, not, ◌||◌, Option, None, Some, ◌≡◌, ◌++◌, IsSomeAnd}
use Rattle.tt_codec.specs.Header.{HeaderFits, header_bytes, format_1_at, format_2_at, format_3_at, format_4_at}
use Rattle.tt_codec.specs.Leaf.{LeafEntryFits, leaf_bytes, most_leaf_bytes, plain_at, marked_at}
use Rattle.tt_codec.specs.Read.{Read, ◌>>=◌, byte_at}
use Rattle.tt_codec.specs.SpanNumbers.{span_at}
use Rattle.tt_codec.specs.declared.entry.Entry.TheVariants.{Leaf as of_leaf, Header as of_header}
use Rattle.tt_codec.specs.declared.entry.Entry.{Entry}
use Rattle.tt_codec.specs.declared.entry.LeafEntry.{LeafEntry}
use Rattle.tt_codec.specs.declared.span.SpanNumbers.{SpanNumbers}
use Rattle.tt_codec.specs.declared.span.Spanned.{Spanned}

-- the bytes of a token below the top
abbrev pub entry_bytes : Entry → List ℕ
entry_bytes (of_leaf it) = leaf_bytes it
entry_bytes (of_header it) = header_bytes it

-- the largest number of bytes that a token takes
abbrev pub most_entry_bytes : Entry → ℕ
most_entry_bytes (of_leaf it) = most_leaf_bytes it
most_entry_bytes (of_header it) = 33

-- the numbers of a token are small enough
abbrev pub EntryFits : Entry → Type 0
EntryFits (of_leaf it) = LeafEntryFits it
EntryFits (of_header it) = HeaderFits it

-- ---- reading

-- the leaf that is read, as a token
abbrev pub as_entry : Read LeafEntry → Read Entry
as_entry read = read >>= λ found. Some (of_leaf found.0, found.1)

-- a token whose span has no extra bits, after the span and this byte are read
abbrev pub plain_entry_at : (control : ℕ) → SpanNumbers → List ℕ → Read Entry
plain_entry_at control numbers rest =
    if control % 8 == 0 then format_1_at (control / 8) numbers rest
    else if control % 8 == 1 then format_2_at (control / 8) numbers rest
    else if control % 8 == 2 then format_3_at (control / 8) numbers rest
    else if control % 8 == 5 then format_4_at (control / 8) numbers rest
    else as_entry (plain_at control numbers rest)

-- a token, after its span is read
abbrev pub entry_behind_span : (extra : ℕ) → SpanNumbers → List ℕ → Read Entry
entry_behind_span extra numbers bytes =
    if extra == 0 then (byte_at bytes >>= λ control. plain_entry_at control.0 numbers control.1)
    else as_entry (marked_at extra numbers bytes)

-- whether the byte after a span begins a header of the first or the fourth format, or a literal of the short form
abbrev pub is_common_control : (control : ℕ) → Bool
is_common_control control = control % 8 == 0 || control % 8 == 5 || control % 8 == 3 || control % 8 == 4

-- whether a token has one of the common forms, if its span has these extra bits, and this byte is read after it
abbrev pub is_common_behind : (extra : ℕ) → Read ℕ → Bool
is_common_behind extra None = not (extra == 0)
is_common_behind extra (Some control) = not (extra == 0) || is_common_control control.0

-- the same for a span that is read
abbrev pub is_common : Read Spanned → Bool
is_common None = false
is_common (Some span) = is_common_behind span.0.extra (byte_at span.1)

-- whether the bytes begin with the span of an ident or an ASCII punct; or with the span and one byte of a header of the first or the
-- fourth format, or of a literal of the short form
unfoldable pub is_common_at : List ℕ → Bool
is_common_at bytes = is_common (span_at bytes)

-- a token
unfoldable pub entry_at : List ℕ → Read Entry
entry_at bytes = span_at bytes >>= λ span. entry_behind_span span.0.extra span.0.numbers span.1

-- if the bytes begin with a written token, the result is that token and the bytes after it
abbrev pub EntriesAgain : List ℕ → Option (Entry × Bor (List ℕ)) → Type 0
EntriesAgain bytes result =
    (entry : Entry) (rest : List ℕ) → EntryFits entry
    → bytes ≡ entry_bytes entry ++ rest
    → IsSomeAnd result (λ found. (found.0 ≡ entry) × (found.1.now ≡ rest))
