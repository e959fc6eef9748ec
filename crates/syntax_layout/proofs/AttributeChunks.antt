-- An attribute that documents something, as chunks.
use Rattle.std.proofs.Common.{◌≡◌, ℕ, zero, suc, ◌+◌, ◌-◌, ◌<◌, Bool, true, false, List, [], ◌∷◌, ◌++◌, length, take, drop, codes, refl, sym, ap, ap₂, ◌∙◌, subst, arith, append-nil, append_assoc, le-add_right}
use Rattle.std.proofs.Math.Seq.{drop-length, take-length}
use Rattle.std.proofs.lemmas.Str.{IsCharBoundary-end, IsUtf8-from_ascii, chars-IsAscii}
use Rattle.std.specs.Str.{IsAscii, IsCharBoundary, IsUtf8, chars}
use Rattle.unicode_ident.proofs.Computing.{unicode_ident}
use Rattle.syntax_edit.proofs.DocTexts.{IsDocText, doc_alone}
use Rattle.syntax_layout.proofs.Ahead.{line_end}
use Rattle.syntax_layout.specs.Documented.{attribute_opening, raw_string}
use Rattle.syntax_lex.specs.Class.{is_whitespace}
use Rattle.syntax_lex.specs.Front.{first}
use Rattle.syntax_lex.specs.Opening.{symbol}
use Rattle.syntax_lex.specs.Reading.{reading}
use Rattle.syntax_lex.specs.declared.token.DocStyle.{DocStyle}
use Rattle.syntax_lex.specs.declared.token.DocStyle.TheVariants.{Outer, Inner}
use Rattle.syntax_lex.specs.declared.token.TokenKind.TheVariants as kinds
use Rattle.syntax_edit.proofs.LifeFacts.{name_read}
use Rattle.syntax_edit.proofs.Tokens.{token_parted}
use Rattle.syntax_lex.specs.Stops.{Stops, is_glued}
use Rattle.syntax_parse.specs.Doc.{hashes_wanted}
use Rattle.syntax_parse.specs.Pieces.{doc as doc_sorts}
use Rattle.syntax_parse.specs.Spelled.{name, sign}
use Rattle.syntax_parse.specs.declared.bracket.Bracket.{Bracket}
use Rattle.syntax_parse.specs.declared.bracket.Bracket.TheVariants.{Square}
use Rattle.syntax_parse.specs.declared.role.Role.TheVariants as roles
use Rattle.syntax_unparse.proofs.Chunks.{AreChunks, Chunk, IsChunk, joined, match, means_of, tokens_of}
use Rattle.syntax_unparse.proofs.Fronts.{ascii_first, closing_is, gap_are, known_chunk, leaf_front, literal_known, not_nil, opening_is, reads_as, sign_chunk, text}
use Rattle.syntax_unparse.proofs.WordFacts.{no_space}
use Rattle.syntax_unparse.proofs.Written.{closing_chunk, gap, leaf_chunk, opening_chunk}
use Rattle.syntax_unparse.specs.Writable.{IsOneToken, first_kind}
use Rattle.tt_base.specs.LeafText.{closing_quote, leaf_text, opening_quote}
use Rattle.tt_base.specs.declared.ident.IdentIsRaw.TheVariants.{No}
use Rattle.tt_base.specs.declared.leaf.Leaf.{Leaf}
use Rattle.tt_base.specs.declared.leaf.Leaf.TheVariants as leaf_of
use Rattle.tt_base.specs.declared.literal.LitKind.TheVariants.{StrRaw}
use Rattle.tt_base.specs.declared.literal.Literal.{Literal}
use Rattle.tt_base.specs.declared.punct.Spacing.TheVariants.{Alone}
use Rattle.tt_base.specs.declared.span.Span.{Span}

-- some span
abbrev some_span : Span
some_span = record {
  range = record { start = record { raw = 0 }; end = record { raw = 0 + 0 }; ordered = le-add_right 0 0 };
  anchor = record { file_id = record { 0 = 0 }; ast_id = record { 0 = 0 } };
  ctx = record { 0 = 0 };
}

-- the literal of an attribute
abbrev literal_of : (doc : List ℕ) → Literal
literal_of doc = record {
  symbol = doc;
  span = some_span;
  kind = StrRaw (hashes_wanted doc);
  suffix_len = 0;
  fits = omega arith;
  cuts = subst (IsCharBoundary doc) (omega arith) (IsCharBoundary-end doc);
}

abbrev leaf : (doc : List ℕ) → Leaf
leaf doc = leaf_of.Literal (literal_of doc)

leaf_text_is : (doc : List ℕ) → leaf_text (leaf doc) ≡ raw_string doc
leaf_text_is doc =
    let open_quote = opening_quote (StrRaw (hashes_wanted doc)) in
    let close_quote = closing_quote (StrRaw (hashes_wanted doc)) in
    let at : length doc - 0 ≡ length doc = omega arith in
    let front : take (length doc - 0) doc ≡ doc = ap (λ n. take n doc) at ∙ take-length doc in
    let back : drop (length doc - 0) doc ≡ [] = ap (λ n. drop n doc) at ∙ drop-length doc in
    ap₂ (λ f b. ((open_quote ++ f) ++ close_quote) ++ b) front back
    ∙ append-nil ((open_quote ++ doc) ++ close_quote)
    ∙ append_assoc open_quote doc close_quote

abbrev text_chunk : (doc : List ℕ) → Chunk
text_chunk doc = leaf_chunk (leaf doc) []

-- it is one token, whatever bracket follows
record IsText (doc : List ℕ) : Type 0 where
  one : IsOneToken (leaf_text (leaf doc))
  is : (chunks : List Chunk) → Stops (text chunks) → IsChunk (text_chunk doc) chunks

text_is_one : (doc : List ℕ) → IsDocText doc → hashes_wanted doc < 256 → IsText doc
text_is_one doc it few =
    let reads = reads_as (leaf doc) refl (doc_alone doc it few (literal_of doc) refl refl refl) in
    let known = literal_known (literal_of doc) (leaf_text (leaf doc)) (first_kind (leaf_text (leaf doc))) reads.0.fine reads.1 in
    record { one = reads.0; is = λ chunks stops. known_chunk (leaf doc) [] chunks reads.0 known stops }

-- the name in the attribute
abbrev name_chunk : Chunk
name_chunk = record { text = codes "doc"; kind = kinds.Ident; role = roles.Leaf; means = name (codes "doc") No ∷ [] }

doc_ascii : IsAscii (codes "doc")
doc_ascii zero = omega arith
doc_ascii (suc zero) = omega arith
doc_ascii (suc (suc zero)) = omega arith
doc_ascii (suc (suc (suc i))) = omega arith

doc_letters : chars (codes "doc") ≡ codes "doc"
doc_letters = chars-IsAscii (codes "doc") doc_ascii

doc_read : reading (codes "doc") ≡ (kinds.Ident, [])
unfolding unicode_ident
doc_read = name_read 100 (111 ∷ 99 ∷ []) refl refl

name_is : (chunks : List Chunk) (rest : List ℕ) → text chunks ≡ 32 ∷ rest → IsChunk name_chunk chunks
name_is chunks rest begins =
    let some = not_nil 100 (codes "oc") in
    record {
      utf8 = IsUtf8-from_ascii (codes "doc") doc_ascii;
      some = λ e. some (sym doc_letters ∙ e);
      reads = ap₂ (λ w t. reading (w ++ t)) doc_letters begins ∙ token_parted (codes "doc") rest 32 kinds.Ident some doc_read refl refl refl ∙ ap (λ t. (kinds.Ident, t)) (sym begins);
      role = refl;
      means = λ part at. refl;
    }

-- the signs in the attribute
abbrev pound_chunk : Chunk
pound_chunk = record { text = 35 ∷ []; kind = kinds.Pound; role = roles.Leaf; means = sign 35 Alone ∷ [] }

abbrev bang_chunk : Chunk
bang_chunk = record { text = 33 ∷ []; kind = kinds.Bang; role = roles.Leaf; means = sign 33 Alone ∷ [] }

abbrev equals_chunk : Chunk
equals_chunk = record { text = 61 ∷ []; kind = kinds.Eq; role = roles.Leaf; means = sign 61 Alone ∷ [] }

abbrev bracket_chunks : (doc : List ℕ) → List Chunk → List Chunk
bracket_chunks doc tail = opening_chunk Square ∷ name_chunk ∷ gap ∷ equals_chunk ∷ gap ∷ text_chunk doc ∷ closing_chunk Square ∷ tail

abbrev pub attribute_chunks : DocStyle → (doc : List ℕ) → List Chunk → List Chunk
attribute_chunks Outer doc tail = pound_chunk ∷ bracket_chunks doc tail
attribute_chunks Inner doc tail = pound_chunk ∷ gap ∷ bang_chunk ∷ bracket_chunks doc tail

equals_is : (chunks : List Chunk) → IsChunk equals_chunk (gap ∷ chunks)
unfolding symbol
equals_is chunks = sign_chunk 61 equals_chunk (gap ∷ chunks) (omega arith) refl refl refl refl refl (λ part at. refl)

brackets_are : (doc : List ℕ) (tail : List Chunk) → IsDocText doc → hashes_wanted doc < 256 → AreChunks tail → AreChunks (bracket_chunks doc tail)
brackets_are doc tail it few are =
    (opening_is Square (name_chunk ∷ gap ∷ equal), (name_is (gap ∷ equal) (text equal) (ascii_first 32 (joined equal) (omega arith)), gap_are true equal equal_are equal_front))
  where
    one : IsText doc
    one = text_is_one doc it few

    closed : List Chunk
    closed = closing_chunk Square ∷ tail

    stops : Stops (text closed)
    stops = subst Stops (sym (ascii_first 93 (joined tail) (omega arith))) refl

    string : List Chunk
    string = text_chunk doc ∷ closed

    string_are : AreChunks string
    string_are = (one.is closed stops, (closing_is Square tail, are))

    string_front : is_whitespace (first (text string)) ≡ false
    string_front = ap is_whitespace (leaf_front (leaf doc) [] closed one.one) ∙ no_space (leaf_text (leaf doc)) one.one

    equal : List Chunk
    equal = equals_chunk ∷ gap ∷ string

    equal_are : AreChunks equal
    equal_are = (equals_is string, gap_are true string string_are string_front)

    equal_front : is_whitespace (first (text equal)) ≡ false
    equal_front = ap (λ t. is_whitespace (first t)) (ascii_first 61 (joined (gap ∷ string)) (omega arith))

pub attribute_are : (style : DocStyle) (doc : List ℕ) (tail : List Chunk) → IsDocText doc → hashes_wanted doc < 256 → AreChunks tail → AreChunks (attribute_chunks style doc tail)
unfolding symbol
attribute_are Outer doc tail it few are =
    let rest = name_chunk ∷ gap ∷ equals_chunk ∷ gap ∷ text_chunk doc ∷ closing_chunk Square ∷ tail in (
      sign_chunk 35 pound_chunk (bracket_chunks doc tail) (omega arith) refl refl (ap (λ t. is_glued 35 (first t)) (ascii_first 91 (joined rest) (omega arith))) refl refl (λ part at. refl),
      brackets_are doc tail it few are,
    )
attribute_are Inner doc tail it few are =
    let rest = name_chunk ∷ gap ∷ equals_chunk ∷ gap ∷ text_chunk doc ∷ closing_chunk Square ∷ tail in
    let bang = bang_chunk ∷ bracket_chunks doc tail in
    let bang_are : AreChunks bang = (sign_chunk 33 bang_chunk (bracket_chunks doc tail) (omega arith) refl refl refl refl refl (λ part at. refl), brackets_are doc tail it few are) in (
      sign_chunk 35 pound_chunk (gap ∷ bang) (omega arith) refl refl (ap (λ t. is_glued 35 (first t)) (ascii_first 32 (joined bang) (omega arith))) refl refl (λ part at. refl),
      gap_are true bang bang_are (ap (λ t. is_whitespace (first t)) (ascii_first 33 (joined (bracket_chunks doc tail)) (omega arith))),
    )

pub attribute_text : (style : DocStyle) (doc : List ℕ) (tail : List Chunk) → joined (attribute_chunks style doc tail) ≡ attribute_opening style ++ (raw_string doc ++ 93 ∷ joined tail)
attribute_text Outer doc tail = ap (λ t. codes "#[doc = " ++ (t ++ 93 ∷ joined tail)) (leaf_text_is doc)
attribute_text Inner doc tail = ap (λ t. codes "# ![doc = " ++ (t ++ 93 ∷ joined tail)) (leaf_text_is doc)

pub attribute_means : (style : DocStyle) (doc : List ℕ) (tail : List Chunk) → means_of (attribute_chunks style doc tail) ≡ doc_sorts style doc ++ means_of tail
attribute_means Outer doc tail = refl
attribute_means Inner doc tail = refl

pub attribute_match : (style : DocStyle) (doc : List ℕ) (tail : List Chunk) (before : List Bracket) → match before (attribute_chunks style doc tail) ≡ match before tail
attribute_match Outer doc tail [] = refl
attribute_match Outer doc tail (last ∷ before) = refl
attribute_match Inner doc tail [] = refl
attribute_match Inner doc tail (last ∷ before) = refl

pub attribute_line : (style : DocStyle) (doc : List ℕ) (tail : List Chunk) (before : Bool) → line_end before (tokens_of (attribute_chunks style doc tail)) ≡ line_end false (tokens_of tail)
attribute_line Outer doc tail before = refl
attribute_line Inner doc tail before = refl

pub string_utf8 : (doc : List ℕ) → IsDocText doc → hashes_wanted doc < 256 → IsUtf8 (raw_string doc)
string_utf8 doc it few = subst IsUtf8 (leaf_text_is doc) (text_is_one doc it few).one.utf8
