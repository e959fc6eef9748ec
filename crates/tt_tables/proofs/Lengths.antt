-- The number of bytes of tokens and trees.
use Rattle.std.proofs.Common.{◌≡◌, ℕ, suc, ◌+◌, ◌*◌, ◌^◌, ◌/◌, ◌%◌, ◌≤◌, Bool, true, false, cond, ◌==◌, nat_lt, nat_le, List, [], ◌∷◌, ◌++◌, Some, None, length, length-append, lit≤, arith, w16}
use Rattle.std.specs.Int.{to_le_bytes}
use Rattle.tt_base.specs.declared.literal.LitKind.{LitKind}
use Rattle.tt_base.specs.declared.literal.LitKind.TheVariants as lit
use Rattle.tt_base.specs.declared.token_tree.TokenTree.TheVariants as token
use Rattle.tt_codec.specs.declared.entry.Entry.{Entry}
use Rattle.tt_codec.specs.declared.entry.Entry.TheVariants.{Leaf as of_leaf, Header as of_header}
use Rattle.tt_codec.specs.Entry.{entry_bytes}
use Rattle.tt_base.specs.Forest.{Forest, end, leaf, node, Root, size, header, flat}
use Rattle.tt_codec.specs.declared.entry.HeaderEntry.{HeaderEntry}
use Rattle.tt_codec.specs.Header.{format_1, format_2, format_3, format_4, has_format_1, has_format_2, has_format_3, header_bytes, top_entry}
use Rattle.tt_codec.specs.declared.entry.LeafEntry.TheVariants.{Punct as punct, Ident as ident, Literal as literal}
use Rattle.tt_codec.specs.Kinds.{delimiter_number, spacing_number, raw_number}
use Rattle.tt_codec.specs.Leaf.{form_of, long_form, literal_form}
use Rattle.tt_codec.specs.Reference.{reference_bytes}
use Rattle.tt_codec.specs.declared.span.SpanNumbers.{SpanNumbers}
use Rattle.tt_codec.specs.SpanNumbers.{fits_one_word, fits_two_words, light_span, middle_span, heavy_span, span_bytes, word}
use Rattle.tt_tables.specs.Stored.{bytes, bytes_below, packed}
use Rattle.tt_tables.specs.Tables.{Tables, entry_of, token_bytes, tables_for}

-- the list has that many bytes
abbrev pub IsBetween : (low high : ℕ) → List ℕ → Type 0
IsBetween low high bytes = (low ≤ length bytes) × (length bytes ≤ high)

either : (low high : ℕ) (t : Bool) (xs ys : List ℕ) → IsBetween low high xs → IsBetween low high ys → IsBetween low high (cond t xs ys)
either low high true xs ys h k = h
either low high false xs ys h k = k

both : (a b c d : ℕ) (xs ys : List ℕ) → IsBetween a b xs → IsBetween c d ys → IsBetween (a + c) (b + d) (xs ++ ys)
both a b c d xs ys h k = (omega (arith, length-append xs ys), omega (arith, length-append xs ys))

wider : (a b : ℕ) (xs : List ℕ) → 5 ≤ a → b ≤ 33 → IsBetween a b xs → IsBetween 5 33 xs
wider a b xs h k p = (omega arith, omega arith)

-- A span takes one to three words.
pub span_length : (extra : ℕ) (numbers : SpanNumbers) → IsBetween 4 12 (span_bytes false extra numbers)
unfolding span_bytes
span_length extra numbers =
    either 4 12 (fits_one_word numbers) (light_span extra numbers) _ (lit≤ tt, lit≤ tt)
    (either 4 12 (fits_two_words numbers) (middle_span extra numbers) (heavy_span extra numbers) (lit≤ tt, lit≤ tt) (lit≤ tt, lit≤ tt))

-- A reference takes one to four bytes.
pub reference_length : (index tag : ℕ) → IsBetween 1 4 (reference_bytes index tag)
unfolding reference_bytes
reference_length index tag =
    either 1 4 (nat_lt index 64) ((index * 4 + tag) ∷ []) _ (lit≤ tt, lit≤ tt)
    (either 1 4 (nat_lt index 8192) ((index % 64 * 4 + 2 + tag) ∷ (index / 64 * 2) ∷ [])
    ((index % 64 * 4 + 2 + tag) ∷ (index / 64 % 128 * 2 + 1) ∷ to_le_bytes w16 (index / 2 ^ 13)) (lit≤ tt, lit≤ tt) (lit≤ tt, lit≤ tt))

short_length : (number : ℕ) (kind : LitKind) (suffix_len : ℕ) → IsBetween 1 3 (long_form kind suffix_len) → IsBetween 1 3 (form_of (Some number) kind suffix_len)
short_length number kind suffix_len long = either 1 3 (nat_le suffix_len 15) ((number + suffix_len * 16) ∷ []) (long_form kind suffix_len) (lit≤ tt, lit≤ tt) long

form_length : (kind : LitKind) (suffix_len : ℕ) → IsBetween 1 3 (literal_form kind suffix_len)
unfolding literal_form
form_length lit.Byte n = (lit≤ tt, lit≤ tt)
form_length lit.Char n = (lit≤ tt, lit≤ tt)
form_length lit.Integer n = short_length 12 lit.Integer n (lit≤ tt, lit≤ tt)
form_length lit.Float n = (lit≤ tt, lit≤ tt)
form_length lit.Str n = short_length 3 lit.Str n (lit≤ tt, lit≤ tt)
form_length (lit.StrRaw count) n = by_count (count == 0) (count == 1)
  where
    by_count : (is_none is_one : Bool) → IsBetween 1 3 (form_of (cond is_none (Some 4) (cond is_one (Some 11) None)) (lit.StrRaw count) n)
    by_count true is_one = short_length 4 (lit.StrRaw count) n (lit≤ tt, lit≤ tt)
    by_count false true = short_length 11 (lit.StrRaw count) n (lit≤ tt, lit≤ tt)
    by_count false false = (lit≤ tt, lit≤ tt)
form_length lit.ByteStr n = (lit≤ tt, lit≤ tt)
form_length (lit.ByteStrRaw count) n = (lit≤ tt, lit≤ tt)
form_length lit.CStr n = (lit≤ tt, lit≤ tt)
form_length (lit.CStrRaw count) n = (lit≤ tt, lit≤ tt)
form_length (lit.Err unit) n = (lit≤ tt, lit≤ tt)

format_1_length : (it : HeaderEntry) → IsBetween 5 33 (format_1 it)
format_1_length it = wider 7 15 _ (lit≤ tt) (lit≤ tt) (both 4 12 3 3 (span_bytes false 0 _) _ (span_length 0 _) (lit≤ tt, lit≤ tt))

format_2_length : (it : HeaderEntry) → IsBetween 5 33 (format_2 it)
format_2_length it = wider 7 15 _ (lit≤ tt) (lit≤ tt) (both 4 12 3 3 (span_bytes false 0 it.opening) _ (span_length 0 it.opening) (lit≤ tt, lit≤ tt))

format_3_length : (it : HeaderEntry) → IsBetween 5 33 (format_3 it)
format_3_length it = wider 9 17 _ (lit≤ tt) (lit≤ tt) (both 4 12 5 5 (span_bytes false 0 it.opening) _ (span_length 0 it.opening) (lit≤ tt, lit≤ tt))

format_4_length : (it : HeaderEntry) → IsBetween 5 33 (format_4 false it)
format_4_length it =
    wider 17 33 _ (lit≤ tt) (lit≤ tt)
    (both 13 29 4 4 _ (word it.child_bytes)
    (both 9 25 4 4 _ (word it.len)
    (both 4 12 5 13 (span_bytes false 0 it.opening) _ (span_length 0 it.opening)
    (both 1 1 4 12 ((5 + delimiter_number it.kind * 8) ∷ []) (span_bytes false 0 it.closing) (lit≤ tt, lit≤ tt) (span_length 0 it.closing)))
    (lit≤ tt, lit≤ tt))
    (lit≤ tt, lit≤ tt))

-- The longest form of both spans makes a header of 33 bytes.
pub heavy_length : (it : HeaderEntry) → length (format_4 true it) ≡ 33
unfolding span_bytes
heavy_length it = omega arith

header_length : (it : HeaderEntry) → IsBetween 5 33 (header_bytes it)
unfolding header_bytes
header_length it =
    either 5 33 (has_format_1 it) (format_1 it) _ (format_1_length it)
    (either 5 33 (has_format_2 it) (format_2 it) _ (format_2_length it)
    (either 5 33 (has_format_3 it) (format_3 it) (format_4 false it) (format_3_length it) (format_4_length it)))

-- A token takes 5 to 33 bytes.
pub entry_length : (it : Entry) → IsBetween 5 33 (entry_bytes it)
entry_length (of_leaf (punct char spacing at)) =
    either 5 33 (nat_lt char 128) _ _
    (wider 5 13 _ (lit≤ tt) (lit≤ tt) (both 4 12 1 1 (span_bytes false (1 + spacing_number spacing / 2 * 2) at) _ (span_length _ at) (lit≤ tt, lit≤ tt)))
    (wider 9 17 _ (lit≤ tt) (lit≤ tt) (both 4 12 5 5 (span_bytes false 0 at) _ (span_length 0 at) (lit≤ tt, lit≤ tt)))
entry_length (of_leaf (ident symbol raw at)) =
    wider 5 16 _ (lit≤ tt) (lit≤ tt) (both 4 12 1 4 (span_bytes false 2 at) _ (span_length 2 at) (reference_length symbol (raw_number raw)))
entry_length (of_leaf (literal symbol kind suffix_len at)) =
    wider 6 19 _ (lit≤ tt) (lit≤ tt)
    (both 5 15 1 4 (span_bytes false 0 at ++ literal_form kind suffix_len) _
    (both 4 12 1 3 (span_bytes false 0 at) _ (span_length 0 at) (form_length kind suffix_len)) (reference_length symbol 0))
entry_length (of_header it) = header_length it

-- Trees take 5 to 33 bytes for each token.
pub bytes_length : (tables : Tables) (trees : Forest) → IsBetween (5 * size trees) (33 * size trees) (bytes tables trees)
unfolding bytes
bytes_length tables end = (lit≤ tt, lit≤ tt)
bytes_length tables (leaf it rest) =
    let (low, high) = both 5 33 _ _ (token_bytes tables (token.Leaf it) 0) (bytes tables rest) (entry_length (entry_of tables (token.Leaf it) 0)) (bytes_length tables rest) in
    (omega arith, omega arith)
bytes_length tables (node delimiter children rest) =
    let (low, high) =
    both _ _ _ _ (first ++ bytes tables children) (bytes tables rest)
    (both 5 33 _ _ first (bytes tables children) (entry_length (entry_of tables (header delimiter (size children)) (length (bytes tables children)))) (bytes_length tables children))
    (bytes_length tables rest) in
    (omega arith, omega arith)
  where
    first : List ℕ
    first = token_bytes tables (header delimiter (size children)) (length (bytes tables children))

-- A stored tree takes 33 bytes for the top's header, and 5 to 33 for each token below it.
pub packed_length : (root : Root) → IsBetween (33 + 5 * size root.children) (33 * suc (size root.children)) (packed root).bytes
unfolding packed
packed_length root =
    let top : HeaderEntry = top_entry (length (tables_for (flat root.children)).parts) root.delimiter (size root.children) (length (bytes_below root.children)) in
    let (low, high) =
    both 33 33 _ _ (format_4 true top) (bytes_below root.children) (omega (arith, heavy_length top), omega (arith, heavy_length top)) (bytes_length (tables_for (flat root.children)) root.children) in
    (omega arith, omega arith)
