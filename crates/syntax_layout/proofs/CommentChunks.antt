-- A comment of one line that documents something, as a chunk.
use Rattle.std.proofs.Common.{◌≡◌, ◌≢◌, ◌⊎◌, inl, inr, ℕ, ◌+◌, ◌-◌, ◌<◌, Bool, true, false, ◌==◌, ◌||◌, ◌&&◌, not, List, [], ◌∷◌, ◌++◌, length, take, codes, None, Some, refl, sym, ap, ap₂, ◌∙◌, subst, arith, append-nil, append_assoc, length-append, if◌then◌else◌}
use Rattle.std.proofs.Math.Seq.{take-append_seam}
use Rattle.std.proofs.Math.Utf8.{encodes}
use Rattle.std.proofs.Math.Bool.{or-true}
use Rattle.std.proofs.lemmas.Bool.{eqb-true, false≢true, ltb-true, or_parts}
use Rattle.std.proofs.lemmas.Bool.Decides.{Decides-eqb}
use Rattle.std.proofs.lemmas.List.Folds.{list_any-append}
use Rattle.std.proofs.lemmas.Slice.Eq.{ends_is}
use Rattle.std.proofs.lemmas.Str.{IsUtf8-append, IsUtf8-from_ascii, IsUtf8-nil, chars-IsAscii, chars-append, chars-nil, encode_ascii, encodes-chars}
use Rattle.std.specs.List.{ends_with, list_any}
use Rattle.std.specs.Prelude.{nat_eq, nat_lt, encode_utf8}
use Rattle.std.specs.Str.{IsUtf8, chars}
use Rattle.syntax_edit.proofs.DocTexts.{IsDocText}
use Rattle.syntax_edit.proofs.KindFacts.{placed_sorts}
use Rattle.syntax_layout.proofs.Between.{not_true}
use Rattle.syntax_layout.proofs.Chunks.{first_letter}
use Rattle.syntax_layout.specs.Documented.{comment, comment_opening, documents, is_line_end}
use Rattle.syntax_lex.proofs.ByteFacts.{first_byte}
use Rattle.syntax_lex.proofs.FrontFacts.{empty_from_chars}
use Rattle.syntax_lex.specs.Comments.{line_comment}
use Rattle.syntax_lex.specs.Front.{behind, first}
use Rattle.syntax_lex.specs.Opening.{opening}
use Rattle.syntax_lex.specs.Reading.{reading, reading_of}
use Rattle.syntax_lex.specs.Stop.{is_in_line}
use Rattle.syntax_lex.specs.declared.token.DocStyle.{DocStyle}
use Rattle.syntax_lex.specs.declared.token.DocStyle.TheVariants.{Outer, Inner}
use Rattle.syntax_lex.specs.declared.token.TokenKind.TheVariants as kinds
use Rattle.syntax_parse.specs.Doc.{behind_line_opening, hashes_wanted, line_text, without_return}
use Rattle.syntax_parse.specs.Inside.{bare_return, begins_with_feed, fault_if, first_of, inner_return}
use Rattle.syntax_parse.specs.Parsed.{next_kind}
use Rattle.syntax_parse.specs.Pieces.{doc as doc_sorts, pieces_as}
use Rattle.syntax_parse.specs.Role.{role_in, with_inside}
use Rattle.syntax_parse.specs.declared.fault.BadToken.TheVariants as bad
use Rattle.syntax_parse.specs.declared.role.Role.TheVariants.{Leaf}
use Rattle.syntax_unparse.proofs.Chunks.{Chunk, IsChunk, tokens_of}
use Rattle.syntax_unparse.proofs.Fronts.{ascii_first, not_nil, text}
use Rattle.syntax_unparse.proofs.KindFacts.{ascii_one}
use Rattle.syntax_unparse.specs.Settled.{sorts}

-- the carriage return before the end of a line, or nothing
abbrev pub IsEnding : List ℕ → Type 0
IsEnding ending = (ending ≡ []) ⊎ (ending ≡ 13 ∷ [])

-- a text of one line has no carriage return
no_return : (b : ℕ) → is_line_end b ≡ false → (b == 13) ≡ false
no_return b h = (or_parts (b == 10) (b == 13) h).1

bare_none : (doc : List ℕ) → list_any is_line_end doc ≡ false → bare_return doc ≡ false
bare_none [] h = refl
bare_none (b ∷ doc) h =
    let both = or_parts (is_line_end b) (list_any is_line_end doc) h in
    ap (λ r. (r && not (begins_with_feed doc)) || bare_return doc) (no_return b both.0) ∙ bare_none doc both.1

pub doc_text : (doc : List ℕ) → IsUtf8 doc → list_any is_line_end doc ≡ false → IsDocText doc
doc_text doc utf8 line = record { utf8 = utf8; quiet = bare_none doc line }

inner_more : (b : ℕ) (rest : List ℕ) → (b == 13) ≡ false → inner_return rest ≡ false → inner_return (b ∷ rest) ≡ false
inner_more b [] h k = refl
inner_more b (c ∷ rest) h k = ap (λ r. (r && not (c == 10)) || inner_return (c ∷ rest)) h ∙ k

inner_none : (doc ending : List ℕ) → IsEnding ending → list_any is_line_end doc ≡ false → inner_return (doc ++ ending) ≡ false
inner_none [] ending (inl e) h = ap inner_return e
inner_none [] ending (inr e) h = ap inner_return e
inner_none (b ∷ doc) ending it h =
    let both = or_parts (is_line_end b) (list_any is_line_end doc) h in
    inner_more b (doc ++ ending) (no_return b both.0) (inner_none doc ending it both.1)

comment_inner : (style : DocStyle) (more : List ℕ) → inner_return more ≡ false → inner_return (comment style more) ≡ false
comment_inner Outer more h = inner_more 47 (47 ∷ 47 ∷ more) refl (inner_more 47 (47 ∷ more) refl (inner_more 47 more refl h))
comment_inner Inner more h = inner_more 47 (47 ∷ 33 ∷ more) refl (inner_more 47 (33 ∷ more) refl (inner_more 33 more refl h))

-- the text of the comment
opened : (style : DocStyle) (more : List ℕ) → behind_line_opening style (comment style more) ≡ more
opened Outer more = refl
opened Inner more = refl

return_any : (front : List ℕ) → list_any is_line_end (front ++ 13 ∷ []) ≡ true
return_any [] = refl
return_any (b ∷ front) = ap (λ r. is_line_end b || r) (return_any front) ∙ or-true (is_line_end b)

ended : (doc ending : List ℕ) → IsEnding ending → list_any is_line_end doc ≡ false → without_return (doc ++ ending) ≡ doc
ended doc ending (inl none) h = ap without_return (ap (λ e. doc ++ e) none ∙ append-nil doc) ∙ go (ends_with nat_eq doc (codes "\r")) refl
  where
    go : (b : Bool) → ends_with nat_eq doc (codes "\r") ≡ b → (if b then take (length doc - 1) doc else doc) ≡ doc
    go false e = refl
    go true e =
        let is = (ends_is Decides-eqb doc (codes "\r") _ refl).0 e in
        absurd (false≢true (sym h ∙ ap (list_any is_line_end) is ∙ return_any (take (length doc - 1) doc)))
ended doc ending (inr one) h =
    let whole : List ℕ = doc ++ 13 ∷ [] in
    let found : ends_with nat_eq whole (codes "\r") ≡ true = (ends_is Decides-eqb whole (codes "\r") _ refl).1 doc refl in
    let at : length whole - 1 ≡ length doc = omega (arith, length-append doc (13 ∷ [])) in
    ap (λ e. without_return (doc ++ e)) one
    ∙ ap (λ b. if b then take (length whole - 1) whole else whole) found
    ∙ ap (λ n. take n whole) at
    ∙ take-append_seam doc (13 ∷ [])

line_text_is : (style : DocStyle) (doc ending : List ℕ) → IsEnding ending → list_any is_line_end doc ≡ false → line_text style (comment style (doc ++ ending)) ≡ doc
line_text_is style doc ending it h = ap without_return (opened style (doc ++ ending)) ∙ ended doc ending it h

comment_role : (style : DocStyle) (doc ending : List ℕ) → IsEnding ending → list_any is_line_end doc ≡ false → hashes_wanted doc < 256 → role_in (kinds.LineComment (Some style)) (comment style (doc ++ ending)) ≡ Leaf
comment_role style doc ending it h few =
    let word : List ℕ = comment style (doc ++ ending) in
    let few_hashes : nat_lt 255 (hashes_wanted (line_text style word)) ≡ false = ap (λ t. nat_lt 255 (hashes_wanted t)) (line_text_is style doc ending it h) ∙ not_above (hashes_wanted doc) few in
    ap (with_inside Leaf) (ap₂ (λ a b. first_of (fault_if a bad.BareReturn) (fault_if b bad.TooManyHashes)) (comment_inner style (doc ++ ending) (inner_none doc ending it h)) few_hashes)
  where
    not_above : (n : ℕ) → n < 256 → nat_lt 255 n ≡ false
    not_above n less = by (nat_lt 255 n) refl
      where
        by : (b : Bool) → nat_lt 255 n ≡ b → nat_lt 255 n ≡ false
        by false e = e
        by true e = absurd (omega (arith, ltb-true 255 n e))

-- the comment ends before the end of the line
behind_line : (cs r : List ℕ) → list_any is_line_end (encodes cs) ≡ false → behind is_in_line (cs ++ r) ≡ behind is_in_line r
behind_line [] r h = refl
behind_line (c ∷ cs) r h = go (c == 10) refl (λ k. behind_line cs r k)
  where
    parts : (list_any is_line_end (encode_utf8 c) ≡ false) × (list_any is_line_end (encodes cs) ≡ false)
    parts = or_parts (list_any is_line_end (encode_utf8 c)) (list_any is_line_end (encodes cs)) (sym (list_any-append is_line_end (encode_utf8 c) (encodes cs)) ∙ h)

    go : (b : Bool) → (c == 10) ≡ b → (list_any is_line_end (encodes cs) ≡ false → behind is_in_line (cs ++ r) ≡ behind is_in_line r) → behind is_in_line (c ∷ (cs ++ r)) ≡ behind is_in_line r
    go false e ih = ap (λ b. if not b then behind is_in_line (cs ++ r) else c ∷ (cs ++ r)) e ∙ ih parts.1
    go true e ih =
        let ten : encode_utf8 c ≡ 10 ∷ [] = ap encode_utf8 (eqb-true c 10 e) ∙ encode_ascii 10 (omega arith) in
        absurd (false≢true (sym parts.0 ∙ ap (list_any is_line_end) ten))

ending_chars : (ending : List ℕ) → IsEnding ending → chars ending ≡ ending
ending_chars ending (inl none) = ap chars none ∙ chars-nil ∙ sym none
ending_chars ending (inr one) = ap chars one ∙ chars-IsAscii (13 ∷ []) (ascii_one 13 (omega arith)) ∙ sym one

ending_utf8 : (ending : List ℕ) → IsEnding ending → IsUtf8 ending
ending_utf8 ending (inl none) = subst IsUtf8 (sym none) IsUtf8-nil
ending_utf8 ending (inr one) = subst IsUtf8 (sym one) (IsUtf8-from_ascii (13 ∷ []) (ascii_one 13 (omega arith)))

behind_ending : (ending fs : List ℕ) → IsEnding ending → behind is_in_line (ending ++ 10 ∷ fs) ≡ 10 ∷ fs
behind_ending ending fs (inl none) = ap (λ e. behind is_in_line (e ++ 10 ∷ fs)) none
behind_ending ending fs (inr one) = ap (λ e. behind is_in_line (e ++ 10 ∷ fs)) one

-- the third sign is the last slash
no_slash : (doc ending fs : List ℕ) → IsUtf8 doc → IsEnding ending → documents doc ≡ true → (first (chars doc ++ (ending ++ 10 ∷ fs)) == 47) ≡ false
no_slash [] ending fs utf8 (inl none) h = ap₂ (λ d e. first (d ++ (e ++ 10 ∷ fs)) == 47) chars-nil none
no_slash [] ending fs utf8 (inr one) h = ap₂ (λ d e. first (d ++ (e ++ 10 ∷ fs)) == 47) chars-nil one
no_slash (b ∷ doc) ending fs utf8 it h =
    ap (λ c. c == 47) (first_letter (chars (b ∷ doc)) (ending ++ 10 ∷ fs) (λ e. omega (arith, empty_from_chars (b ∷ doc) utf8 e)))
    ∙ sym (first_byte (b ∷ doc) 47 utf8 (omega arith) (omega arith) (omega arith))
    ∙ not_true (b == 47) h

-- a character of ASCII before text
pub utf8_more : (c : ℕ) (rest : List ℕ) → c < 128 → IsUtf8 rest → IsUtf8 (c ∷ rest)
utf8_more c rest low fine = IsUtf8-append (c ∷ []) rest (IsUtf8-from_ascii (c ∷ []) (ascii_one c low)) fine

comment_utf8 : (style : DocStyle) (more : List ℕ) → IsUtf8 more → IsUtf8 (comment style more)
comment_utf8 Outer more fine = utf8_more 47 (47 ∷ 47 ∷ more) (omega arith) (utf8_more 47 (47 ∷ more) (omega arith) (utf8_more 47 more (omega arith) fine))
comment_utf8 Inner more fine = utf8_more 47 (47 ∷ 33 ∷ more) (omega arith) (utf8_more 47 (33 ∷ more) (omega arith) (utf8_more 33 more (omega arith) fine))

comment_chars : (style : DocStyle) (more : List ℕ) → chars (comment style more) ≡ comment_opening style ++ chars more
comment_chars Outer more = ascii_first 47 (47 ∷ 47 ∷ more) (omega arith) ∙ ap (λ t. 47 ∷ t) (ascii_first 47 (47 ∷ more) (omega arith) ∙ ap (λ t. 47 ∷ t) (ascii_first 47 more (omega arith)))
comment_chars Inner more = ascii_first 47 (47 ∷ 33 ∷ more) (omega arith) ∙ ap (λ t. 47 ∷ t) (ascii_first 47 (33 ∷ more) (omega arith) ∙ ap (λ t. 47 ∷ t) (ascii_first 33 more (omega arith)))

slashes : (cs : List ℕ) → reading (47 ∷ 47 ∷ cs) ≡ line_comment cs
unfolding reading reading_of opening
slashes cs = refl

comment_reads : (style : DocStyle) (cs fs : List ℕ) → (first (cs ++ 10 ∷ fs) == 47) ≡ false → behind is_in_line (cs ++ 10 ∷ fs) ≡ 10 ∷ fs
    → reading ((comment_opening style ++ cs) ++ 10 ∷ fs) ≡ (kinds.LineComment (Some style), 10 ∷ fs)
comment_reads Outer cs fs slash left = slashes (47 ∷ (cs ++ 10 ∷ fs)) ∙ ap₂ (λ s t. (kinds.LineComment (if not s then Some Outer else None), t)) slash left
comment_reads Inner cs fs slash left = slashes (33 ∷ (cs ++ 10 ∷ fs)) ∙ ap (λ t. (kinds.LineComment (Some Inner), t)) left

abbrev pub comment_chunk : DocStyle → (doc ending : List ℕ) → Chunk
comment_chunk style doc ending = record { text = comment style (doc ++ ending); kind = kinds.LineComment (Some style); role = Leaf; means = doc_sorts style doc }

some_letters : (style : DocStyle) (cs : List ℕ) → comment_opening style ++ cs ≢ []
some_letters Outer cs e = not_nil 47 (47 ∷ 47 ∷ cs) e
some_letters Inner cs e = not_nil 47 (47 ∷ 33 ∷ cs) e

-- before a line feed it means what the attribute means
pub comment_is : (style : DocStyle) (doc ending : List ℕ) (chunks : List Chunk) (fs : List ℕ) → IsUtf8 doc → IsEnding ending → list_any is_line_end doc ≡ false → documents doc ≡ true → hashes_wanted doc < 256
    → text chunks ≡ 10 ∷ fs → IsChunk (comment_chunk style doc ending) chunks
comment_is style doc ending chunks fs utf8 it line tells few feed = record {
  utf8 = comment_utf8 style (doc ++ ending) (IsUtf8-append doc ending utf8 (ending_utf8 ending it));
  some = λ e. some_letters style letters (sym shown ∙ e);
  reads = ap₂ (λ t u. reading (t ++ u)) shown feed ∙ comment_reads style letters fs slash left ∙ ap (λ t. (kinds.LineComment (Some style), t)) (sym feed);
  role = role;
  means = λ part at.
      ap (λ r. sorts (pieces_as r part (kinds.LineComment (Some style)) (next_kind (tokens_of chunks)) at word)) role
      ∙ placed_sorts part at (at + length word) (doc_sorts style (line_text style word))
      ∙ ap (doc_sorts style) (line_text_is style doc ending it line);
}
  where
    word : List ℕ
    word = comment style (doc ++ ending)

    letters : List ℕ
    letters = chars doc ++ ending

    shown : chars word ≡ comment_opening style ++ letters
    shown = comment_chars style (doc ++ ending) ∙ ap (λ t. comment_opening style ++ t) (chars-append doc ending utf8 ∙ ap (λ t. chars doc ++ t) (ending_chars ending it))

    grouped : letters ++ 10 ∷ fs ≡ chars doc ++ (ending ++ 10 ∷ fs)
    grouped = append_assoc (chars doc) ending (10 ∷ fs)

    slash : (first (letters ++ 10 ∷ fs) == 47) ≡ false
    slash = ap (λ t. first t == 47) grouped ∙ no_slash doc ending fs utf8 it tells

    left : behind is_in_line (letters ++ 10 ∷ fs) ≡ 10 ∷ fs
    left =
        ap (behind is_in_line) grouped
        ∙ behind_line (chars doc) (ending ++ 10 ∷ fs) (ap (list_any is_line_end) (encodes-chars doc utf8) ∙ line)
        ∙ behind_ending ending fs it

    role : role_in (kinds.LineComment (Some style)) word ≡ Leaf
    role = comment_role style doc ending it line few
