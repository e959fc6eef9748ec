-- A literal in quotes that is read from a text reads alone, also if a suffix that does not count is dropped.
use Rattle.std.proofs.Common.{◌≡◌, ℕ, zero, suc, ◌+◌, ◌-◌, ◌<◌, Bool, true, false, ◌||◌, inr, List, [], ◌∷◌, ◌++◌, length, take, drop, replicate, Some, refl, sym, ap, ap₂, ◌∙◌, subst, arith, append-nil, append_assoc, length-append, if◌then◌else◌}
use Rattle.std.proofs.Math.Seq.{drop-append_seam, take-append_seam, drop-length, take-length}
use Rattle.std.proofs.Math.Bool.{or-true}
use Rattle.std.proofs.Math.Utf8.{encodes, scalars}
use Rattle.std.proofs.lemmas.Bool.{and_from, and_parts, false≢true}
use Rattle.std.proofs.lemmas.List.{length-replicate}
use Rattle.std.proofs.lemmas.Slice.Eq.{bytes_eq-Decides}
use Rattle.std.proofs.lemmas.Str.{chars-encodes, encode_ascii, encodes-append}
use Rattle.std.specs.Prelude.{bytes_eq, slice_range, unwrap_or}
use Rattle.tt_base.specs.LeafText.{closing_quote, literal_text, opening_quote}
use Rattle.tt_base.specs.Literal.{kind_of, suffix_len_of, symbol_of}
use Rattle.tt_base.specs.Scan.{LiteralParts, closing_len, is_number, no_literal, opening_len, parts_told, quote_len, suffix_told, told}
use Rattle.tt_base.specs.declared.leaf.Leaf.TheVariants as leaf_of
use Rattle.tt_base.specs.declared.literal.LitKind.{LitKind}
use Rattle.tt_base.specs.declared.literal.LitKind.TheVariants as lit
use Rattle.tt_base.specs.declared.literal.Literal.{Literal}
use Rattle.syntax_lex.specs.Front.{byte_length}
use Rattle.syntax_lex.specs.Reading.{reading}
use Rattle.syntax_lex.specs.declared.token.LiteralKind.{LiteralKind}
use Rattle.syntax_lex.specs.declared.token.LiteralKind.TheVariants as literals
use Rattle.syntax_lex.specs.declared.token.TokenKind.TheVariants as kinds
use Rattle.syntax_edit.proofs.QuotedTexts.{Quoted, has_quotes, is_quoted, lit_of, text_in}
use Rattle.syntax_edit.proofs.Roles.{literal_kept}
use Rattle.syntax_lex.proofs.TwinWords.{byte_length-is}
use Rattle.syntax_edit.proofs.Words.{scalars-back, scalars-front, whole_token}
use Rattle.syntax_parse.specs.Pieces.{scan_of}
use Rattle.syntax_parse.specs.Role.{role_in}
use Rattle.syntax_parse.specs.declared.role.Role.TheVariants.{Leaf}
use Rattle.syntax_unparse.specs.Writable.{HasParts, IsOneToken, MeansLiteral, ReadsAlone, ReadsAs, first_kind}

-- a text of ASCII characters, which are its bytes
record IsPlain (text : List ℕ) : Type 0 where
  bytes : encodes text ≡ text
  fine : scalars text ≡ true

no_text : IsPlain []
no_text = record { bytes = refl; fine = refl }

scalars-join : (xs ys : List ℕ) → scalars xs ≡ true → scalars ys ≡ true → scalars (xs ++ ys) ≡ true
scalars-join [] ys h k = k
scalars-join (x ∷ xs) ys h k = let both = and_parts _ _ h in and_from _ _ both.0 (scalars-join xs ys both.1 k)

letter : (c : ℕ) (text : List ℕ) → c < 128 → scalars (c ∷ []) ≡ true → IsPlain text → IsPlain (c ∷ text)
letter c text low is plain = record {
  bytes = ap (λ t. t ++ encodes text) (encode_ascii c low) ∙ ap (λ t. c ∷ t) plain.bytes;
  fine = scalars-join (c ∷ []) text is plain.fine;
}

hashes_plain : (n : ℕ) → IsPlain (replicate n 35)
hashes_plain zero = no_text
hashes_plain (suc n) = letter 35 (replicate n 35) (omega arith) refl (hashes_plain n)

join : (xs ys : List ℕ) → IsPlain xs → IsPlain ys → IsPlain (xs ++ ys)
join xs ys h k = record { bytes = encodes-append xs ys ∙ ap₂ (λ a b. a ++ b) h.bytes k.bytes; fine = scalars-join xs ys h.fine k.fine }

one_letter : (c : ℕ) → c < 128 → scalars (c ∷ []) ≡ true → IsPlain (c ∷ [])
one_letter c low is = letter c [] low is no_text

quote : IsPlain (34 ∷ [])
quote = one_letter 34 (omega arith) refl

apostrophe : IsPlain (39 ∷ [])
apostrophe = one_letter 39 (omega arith) refl

raw_opening : (n : ℕ) → IsPlain (114 ∷ (replicate n 35 ++ 34 ∷ []))
raw_opening n = letter 114 _ (omega arith) refl (join (replicate n 35) (34 ∷ []) (hashes_plain n) quote)

raw_closing : (n : ℕ) → IsPlain (34 ∷ replicate n 35)
raw_closing n = letter 34 _ (omega arith) refl (hashes_plain n)

-- the characters that open and close a literal are ASCII
quotes_plain : (kind : LitKind) → IsPlain (opening_quote kind) × IsPlain (closing_quote kind)
quotes_plain lit.Byte = (letter 98 _ (omega arith) refl apostrophe, apostrophe)
quotes_plain lit.Char = (apostrophe, apostrophe)
quotes_plain lit.Integer = (no_text, no_text)
quotes_plain lit.Float = (no_text, no_text)
quotes_plain lit.Str = (quote, quote)
quotes_plain (lit.StrRaw count) = (raw_opening count, raw_closing count)
quotes_plain lit.ByteStr = (letter 98 _ (omega arith) refl quote, quote)
quotes_plain (lit.ByteStrRaw count) = (letter 98 _ (omega arith) refl (raw_opening count), raw_closing count)
quotes_plain lit.CStr = (letter 99 _ (omega arith) refl quote, quote)
quotes_plain (lit.CStrRaw count) = (letter 99 _ (omega arith) refl (raw_opening count), raw_closing count)
quotes_plain (lit.Err unit) = (no_text, no_text)

-- the scan gives the lengths of both
hashes_long : (n : ℕ) → length {A = ℕ} (replicate n 35 ++ 34 ∷ []) ≡ n + 1
hashes_long n = length-append (replicate n 35) (34 ∷ []) ∙ omega (arith, length-replicate {A = ℕ} n 35)

opening_long : (kind : LiteralKind) → opening_len (scan_of kind) ≡ length (opening_quote (lit_of kind))
opening_long (literals.RawStr hashes) = omega (arith, hashes_long (unwrap_or hashes 0))
opening_long (literals.RawByteStr hashes) = omega (arith, hashes_long (unwrap_or hashes 0))
opening_long (literals.RawCStr hashes) = omega (arith, hashes_long (unwrap_or hashes 0))
opening_long kind = refl

closing_long : (kind : LiteralKind) → is_quoted kind ≡ true → closing_len (scan_of kind) ≡ length (closing_quote (lit_of kind))
closing_long (literals.Int base empty) is = absurd (false≢true is)
closing_long (literals.Float base empty) is = absurd (false≢true is)
closing_long (literals.RawStr hashes) is = omega (arith, length-replicate {A = ℕ} (unwrap_or hashes 0) 35)
closing_long (literals.RawByteStr hashes) is = omega (arith, length-replicate {A = ℕ} (unwrap_or hashes 0) 35)
closing_long (literals.RawCStr hashes) is = omega (arith, length-replicate {A = ℕ} (unwrap_or hashes 0) 35)
closing_long kind is = ap quote_len is

no_number : (kind : LiteralKind) → is_quoted kind ≡ true → is_number (lit_of kind) ≡ false
no_number (literals.Int base empty) is = absurd (false≢true is)
no_number (literals.Float base empty) is = absurd (false≢true is)
no_number kind is = refl

-- the parts of a text with a value between quotes and a rest after them
parts_are : (kind : LiteralKind) (word value rest : List ℕ) (start : ℕ) → is_quoted kind ≡ true → word ≡ opening_quote (lit_of kind) ++ (value ++ (closing_quote (lit_of kind) ++ rest))
    → start ≡ length (opening_quote (lit_of kind) ++ (value ++ closing_quote (lit_of kind)))
    → parts_told word (Some (scan_of kind, start)) ≡ told word (lit_of kind) value (suffix_told rest)
parts_are kind word value rest start is are place =
    let before = opening_quote (lit_of kind) in
    let after = closing_quote (lit_of kind) in
    let front : opening_len (scan_of kind) ≡ length before = opening_long kind in
    let back : closing_len (scan_of kind) ≡ length after = closing_long kind is in
    let text : List ℕ = before ++ (value ++ after) in
    let longs : length text ≡ length before + (length value + length after) = length-append before (value ++ after) ∙ ap (λ n. length before + n) (length-append value after) in
    let whole : word ≡ text ++ rest = are ∙ sym (append_assoc before (value ++ after) rest ∙ ap (λ t. before ++ t) (append_assoc value after rest)) in
    let left : drop start word ≡ rest = ap₂ (λ n t. drop n t) place whole ∙ drop-append_seam text rest in
    let long : (start - closing_len (scan_of kind)) - opening_len (scan_of kind) ≡ length value = omega (arith, front, back, place, longs) in
    let behind : drop (opening_len (scan_of kind)) word ≡ value ++ (after ++ rest) = ap₂ (λ n t. drop n t) front are ∙ drop-append_seam before (value ++ (after ++ rest)) in
    let inner : slice_range word (opening_len (scan_of kind)) (start - closing_len (scan_of kind)) ≡ value = ap₂ (λ n t. take n t) long behind ∙ take-append_seam value (after ++ rest) in
    ap₂ (λ v t. told word (lit_of kind) v (suffix_told t)) inner left

-- the bytes of the text of a literal in quotes
pub text_bytes : (kind : LiteralKind) (body : List ℕ) → encodes (text_in kind body) ≡ text_in kind (encodes body)
text_bytes kind body =
    let before = (quotes_plain (lit_of kind)).0 in
    let after = (quotes_plain (lit_of kind)).1 in
    encodes-append (opening_quote (lit_of kind)) (body ++ closing_quote (lit_of kind))
    ∙ ap₂ (λ a b. a ++ b) before.bytes (encodes-append body (closing_quote (lit_of kind)) ∙ ap (λ b. encodes body ++ b) after.bytes)

-- the text of a literal without a suffix
literal_bytes : (kind : LitKind) (value : List ℕ) (literal : Literal) → symbol_of literal ≡ value → kind_of literal ≡ kind → suffix_len_of literal ≡ 0
    → literal_text literal ≡ opening_quote kind ++ (value ++ closing_quote kind)
literal_bytes kind value literal symbol sort len =
    let at : length literal.symbol - literal.suffix_len ≡ length literal.symbol = omega (arith, len) in
    let front : take (length literal.symbol - literal.suffix_len) literal.symbol ≡ value = ap (λ n. take n literal.symbol) at ∙ take-length literal.symbol ∙ symbol in
    let back : drop (length literal.symbol - literal.suffix_len) literal.symbol ≡ [] = ap (λ n. drop n literal.symbol) at ∙ drop-length literal.symbol in
    let cut : List ℕ = take (length literal.symbol - literal.suffix_len) literal.symbol in
    ap₂ (λ k t. ((opening_quote k ++ cut) ++ closing_quote k) ++ t) sort back
    ∙ append-nil ((opening_quote kind ++ cut) ++ closing_quote kind)
    ∙ append_assoc (opening_quote kind) cut (closing_quote kind)
    ∙ ap (λ v. opening_quote kind ++ (v ++ closing_quote kind)) front

-- a literal whose text is one token reads alone
pub written_alone : (kind : LiteralKind) (body : List ℕ) (start : ℕ) → is_quoted kind ≡ true → scalars body ≡ true → reading (text_in kind body) ≡ (kinds.Literal kind start, [])
    → start ≡ byte_length (text_in kind body) → role_in (kinds.Literal kind start) (encodes (text_in kind body)) ≡ Leaf
    → (literal : Literal) → symbol_of literal ≡ encodes body → kind_of literal ≡ lit_of kind → suffix_len_of literal ≡ 0 → ReadsAlone (leaf_of.Literal literal)
written_alone kind body start is fine read place role literal symbol sort len =
    inr (subst (λ t. ReadsAs t (leaf_of.Literal literal)) (sym (literal_bytes (lit_of kind) (encodes body) literal symbol sort len ∙ sym (text_bytes kind body)))
    (whole.0, subst (λ k. MeansLiteral k word literal) (sym whole.1) means))
  where
    word : List ℕ
    word = encodes (text_in kind body)

    scalar : scalars (text_in kind body) ≡ true
    scalar = scalars-join (opening_quote (lit_of kind)) _ (quotes_plain (lit_of kind)).0.fine (scalars-join body (closing_quote (lit_of kind)) fine (quotes_plain (lit_of kind)).1.fine)

    whole : IsOneToken word × (first_kind word ≡ kinds.Literal kind start)
    whole = whole_token word (text_in kind body) (kinds.Literal kind start) (text_in kind body, (scalar, refl)) (chars-encodes (text_in kind body) scalar) read role

    long : start ≡ length (text_in kind (encodes body))
    long = place ∙ byte_length-is (text_in kind body) ∙ ap length (text_bytes kind body)

    are : word ≡ opening_quote (lit_of kind) ++ (encodes body ++ (closing_quote (lit_of kind) ++ []))
    are = text_bytes kind body ∙ ap (λ t. opening_quote (lit_of kind) ++ (encodes body ++ t)) (sym (append-nil (closing_quote (lit_of kind))))

    parts : parts_told word (Some (scan_of kind, start)) ≡ record { kind = lit_of kind; value = encodes body; suffix = [] }
    parts =
        parts_are kind word (encodes body) [] start is are long
        ∙ ap (λ b. if b then record { kind = lit_of kind; value = encodes body; suffix = [] } else no_literal word) (or-true (is_number (lit_of kind)))

    means : HasParts literal (parts_told word (Some (scan_of kind, start)))
    means = subst (HasParts literal) (sym parts) (record { symbol = symbol ∙ sym (append-nil (encodes body)); span = refl; kind = sort; suffix_len = len })

-- a literal in quotes that is read from a text reads alone
pub quoted_alone : (kind : LiteralKind) (word front : List ℕ) (start : ℕ) → Quoted kind front start → is_quoted kind ≡ true → word ≡ encodes front → scalars front ≡ true
    → role_in (kinds.Literal kind start) word ≡ Leaf → has_quotes (parts_told word (Some (scan_of kind, start))).kind ≡ true
    → (literal : Literal) → symbol_of literal ≡ (parts_told word (Some (scan_of kind, start))).value ++ (parts_told word (Some (scan_of kind, start))).suffix
    → kind_of literal ≡ (parts_told word (Some (scan_of kind, start))).kind → suffix_len_of literal ≡ length (parts_told word (Some (scan_of kind, start))).suffix → ReadsAlone (leaf_of.Literal literal)
quoted_alone kind word front start it is bytes fine role quotes literal symbol sort len =
    go (is_number (lit_of kind) || bytes_eq suffix []) refl (ap (λ p. has_quotes p.kind) (sym parts) ∙ quotes) (symbol ∙ ap (λ p. p.value ++ p.suffix) parts) (sort ∙ ap (λ p. p.kind) parts) (len ∙ ap (λ p. length p.suffix) parts)
  where
    text : List ℕ
    text = text_in kind it.body

    words : word ≡ encodes text ++ encodes it.rest
    words = bytes ∙ ap encodes it.are ∙ encodes-append text it.rest

    value : List ℕ
    value = encodes it.body

    suffix : List ℕ
    suffix = suffix_told (encodes it.rest)

    parts : parts_told word (Some (scan_of kind, start)) ≡ told word (lit_of kind) value suffix
    parts =
        parts_are kind word value (encodes it.rest) start is
        (words ∙ ap (λ t. t ++ encodes it.rest) (text_bytes kind it.body) ∙ append_assoc (opening_quote (lit_of kind)) (value ++ closing_quote (lit_of kind)) (encodes it.rest)
        ∙ ap (λ t. opening_quote (lit_of kind) ++ t) (append_assoc value (closing_quote (lit_of kind)) (encodes it.rest)))
        (it.place ∙ byte_length-is text ∙ ap length (text_bytes kind it.body))

    scalar : scalars it.body ≡ true
    scalar = scalars-front it.body (closing_quote (lit_of kind)) (scalars-back (opening_quote (lit_of kind)) _ (scalars-front text it.rest (subst (λ t. scalars t ≡ true) it.are fine)))

    leaf : role_in (kinds.Literal kind start) (encodes text) ≡ Leaf
    leaf = literal_kept kind start (encodes text) (encodes it.rest) (it.place ∙ byte_length-is text) (subst (λ w. role_in (kinds.Literal kind start) w ≡ Leaf) words role)

    made : LiteralParts
    made = record { kind = lit_of kind; value = value; suffix = suffix }

    go : (b : Bool) → (is_number (lit_of kind) || bytes_eq suffix []) ≡ b → has_quotes (if b then made else no_literal word).kind ≡ true
        → symbol_of literal ≡ (if b then made else no_literal word).value ++ (if b then made else no_literal word).suffix → kind_of literal ≡ (if b then made else no_literal word).kind
        → suffix_len_of literal ≡ length (if b then made else no_literal word).suffix → ReadsAlone (leaf_of.Literal literal)
    go false e has s k l = absurd (false≢true has)
    go true e has s k l =
        let none : suffix ≡ [] = (bytes_eq-Decides suffix []).0 (sym (ap (λ b. b || bytes_eq suffix []) (no_number kind is)) ∙ e) in
        written_alone kind it.body start is scalar it.alone it.place leaf literal (s ∙ ap (λ t. value ++ t) none ∙ append-nil value) k (l ∙ ap length none)
