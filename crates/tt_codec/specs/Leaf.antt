-- How the bytes of a leaf in numbers are written and read.
use Rattle.std.specs.Char.{IsScalar}
use Rattle.std.specs.Prelude.{ℕ, ◌+◌, ◌*◌, ◌/◌, ◌%◌, ◌^◌, ◌<◌, false, ◌==◌, nat_le, nat_lt, if◌then◌else◌, List, [], ◌∷◌, ◌++◌, Option, Some, None, option_to_list}
use Rattle.tt_base.specs.declared.literal.LitKind.{LitKind}
use Rattle.tt_base.specs.declared.punct.Spacing.TheVariants.{Alone, Joint, JointHidden}
use Rattle.tt_base.specs.declared.punct.Spacing.{Spacing}
use Rattle.tt_codec.specs.Kinds.{spacing_number, raw_number, kind_number, hash_count, short_number, raw_from, spacing_from, plain_kind_from, raw_kind_from, short_kind_from}
use Rattle.tt_codec.specs.Read.{Read, ◌>>=◌, byte_at, word_at}
use Rattle.tt_codec.specs.Reference.{reference_bytes, reference_at}
use Rattle.tt_codec.specs.SpanNumbers.{SpanFits, word, span_bytes}
use Rattle.tt_codec.specs.declared.entry.LeafEntry.TheVariants.{Punct as punct, Ident as ident, Literal as literal}
use Rattle.tt_codec.specs.declared.entry.LeafEntry.{LeafEntry}
use Rattle.tt_codec.specs.declared.span.SpanNumbers.{SpanNumbers}
use lib.Utf8.{scalar}

-- the long form: the kind, the number of hashes if it is raw, and the length of the suffix
abbrev pub long_form : LitKind → (suffix_len : ℕ) → List ℕ
long_form kind suffix_len = (7 + kind_number kind * 8) ∷ option_to_list (hash_count kind) ++ suffix_len ∷ []

-- the short form of one byte, if the kind has a short number and the suffix has at most 15 bytes; otherwise the long form
abbrev pub form_of : (short : Option ℕ) → LitKind → (suffix_len : ℕ) → List ℕ
form_of None kind suffix_len = long_form kind suffix_len
form_of (Some number) kind suffix_len =
    if nat_le suffix_len 15 then (number + suffix_len * 16) ∷ [] else long_form kind suffix_len

-- the form of a kind of literal with the length of its suffix
unfoldable pub literal_form : LitKind → (suffix_len : ℕ) → List ℕ
literal_form kind suffix_len = form_of (short_number kind) kind suffix_len

-- a punct; if it is ASCII, the span has the high bit of its spacing, and the low bit is beside the character
abbrev pub punct_bytes : (char : ℕ) → Spacing → SpanNumbers → List ℕ
punct_bytes char spacing numbers =
    if nat_lt char 128 then span_bytes false (1 + spacing_number spacing / 2 * 2) numbers ++ (char * 2 + spacing_number spacing % 2) ∷ []
    else span_bytes false 0 numbers ++ (6 + spacing_number spacing * 8) ∷ word char

-- a leaf; the extra bits of its span and the byte after it show what it is
abbrev pub leaf_bytes : LeafEntry → List ℕ
leaf_bytes (punct char spacing numbers) = punct_bytes char spacing numbers
leaf_bytes (ident symbol raw numbers) = span_bytes false 2 numbers ++ reference_bytes symbol (raw_number raw)
leaf_bytes (literal symbol kind suffix_len numbers) =
    span_bytes false 0 numbers ++ literal_form kind suffix_len ++ reference_bytes symbol 0

-- the largest number of bytes of a punct: 12 of its span, one more, and four of a character that is not ASCII
abbrev pub most_punct_bytes : (char : ℕ) → ℕ
most_punct_bytes char = if nat_lt char 128 then 13 else 17

-- the largest number of bytes of a leaf
abbrev pub most_leaf_bytes : LeafEntry → ℕ
most_leaf_bytes (punct char spacing numbers) = most_punct_bytes char
most_leaf_bytes (ident symbol raw numbers) = 16
most_leaf_bytes (literal symbol kind suffix_len numbers) = 19

-- the numbers of a leaf are small enough
abbrev pub LeafEntryFits : LeafEntry → Type 0
LeafEntryFits (punct char spacing numbers) = IsScalar char × SpanFits numbers
LeafEntryFits (ident symbol raw numbers) = (symbol < 2 ^ 29) × SpanFits numbers
LeafEntryFits (literal symbol kind suffix_len numbers) = (symbol < 2 ^ 29) × SpanFits numbers

-- ---- reading

-- the kind with the number, if it is not raw; otherwise the raw kind with it, whose number of hashes comes next
abbrev pub kind_behind : Option LitKind → (number : ℕ) → List ℕ → Read LitKind
kind_behind (Some kind) number rest = Some (kind, rest)
kind_behind None number rest = byte_at rest >>= λ count. raw_kind_from number count.0 >>= λ kind. Some (kind, count.1)

-- the kind with that number; the number of hashes of a raw kind comes next
abbrev pub kind_at : (number : ℕ) → List ℕ → Read LitKind
kind_at number rest = kind_behind (plain_kind_from number) number rest

-- a literal, after all but the reference is read
abbrev pub literal_at : LitKind → (suffix_len : ℕ) → SpanNumbers → List ℕ → Read LeafEntry
literal_at kind suffix_len numbers rest =
    reference_at rest >>= λ found. Some (literal found.0.index kind suffix_len numbers, found.1)

-- a literal of the long form, after its first byte is read
abbrev pub long_literal_at : (number : ℕ) → SpanNumbers → List ℕ → Read LeafEntry
long_literal_at number numbers rest =
    kind_at number rest >>= λ kind. byte_at kind.1 >>= λ suffix_len. literal_at kind.0 suffix_len.0 numbers suffix_len.1

-- a character
abbrev pub char_at : List ℕ → Read ℕ
char_at bytes = word_at bytes >>= λ code. if scalar code.0 then Some code else None

-- a punct that is not ASCII, after its first byte is read
abbrev pub other_punct_at : (number : ℕ) → SpanNumbers → List ℕ → Read LeafEntry
other_punct_at number numbers rest =
    char_at rest >>= λ char. spacing_from number >>= λ spacing. Some (punct char.0 spacing numbers, char.1)

-- a literal of the short form, after its first byte is read
abbrev pub short_literal_at : (control : ℕ) → SpanNumbers → List ℕ → Read LeafEntry
short_literal_at control numbers rest =
    short_kind_from (control % 16) >>= λ kind. literal_at kind (control / 16) numbers rest

-- a leaf whose span has no extra bits, after the span and this byte are read
abbrev pub plain_at : (control : ℕ) → SpanNumbers → List ℕ → Read LeafEntry
plain_at control numbers rest =
    if control % 8 == 6 then other_punct_at (control / 8) numbers rest
    else if control % 8 == 7 then long_literal_at (control / 8) numbers rest
    else short_literal_at control numbers rest

-- an ident, after its span is read
abbrev pub ident_at : SpanNumbers → List ℕ → Read LeafEntry
ident_at numbers bytes = reference_at bytes >>= λ found. Some (ident found.0.index (raw_from found.0.tag) numbers, found.1)

-- the spacing of an ASCII punct: joint hidden if `hidden` is 1, otherwise alone or joint by the lowest bit of the byte
abbrev pub ascii_spacing : (hidden byte : ℕ) → Spacing
ascii_spacing hidden byte = if hidden == 1 then JointHidden else if byte % 2 == 0 then Alone else Joint

-- an ASCII punct, after its span is read
abbrev pub ascii_at : (hidden : ℕ) → SpanNumbers → List ℕ → Read LeafEntry
ascii_at hidden numbers bytes = byte_at bytes >>= λ byte. Some (punct (byte.0 / 2) (ascii_spacing hidden byte.0) numbers, byte.1)

-- an ident or an ASCII punct, after its span is read
abbrev pub marked_at : (extra : ℕ) → SpanNumbers → List ℕ → Read LeafEntry
marked_at extra numbers bytes = if extra == 2 then ident_at numbers bytes else ascii_at (extra / 2) numbers bytes
