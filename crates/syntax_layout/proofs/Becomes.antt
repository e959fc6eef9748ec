-- The chunks of a text that begins with an attribute, and of the comment in its place.
use Rattle.std.proofs.Common.{◌≡◌, inl, inr, ℕ, ◌+◌, ◌<◌, ◌≤◌, Bool, true, false, ◌==◌, ◌&&◌, List, [], ◌∷◌, ◌++◌, length, codes, Option, None, Some, refl, sym, ap, ◌∙◌, subst, arith, length-append, if◌then◌else◌}
use Rattle.std.proofs.Math.Utf8.{encodes, scalars}
use Rattle.std.proofs.lemmas.Bool.{and_parts, eqb-true, false≢true, ltb-true}
use Rattle.std.proofs.lemmas.List.{append_cancel_left}
use Rattle.std.proofs.lemmas.Str.{IsUtf8-from_ascii, IsUtf8-nil, chars-append, encodes-append, encodes-chars, scalars-chars}
use Rattle.std.specs.Prelude.{nat_lt, unwrap_or}
use Rattle.std.specs.Str.{IsUtf8, chars}
use Rattle.syntax_edit.proofs.Seams.{IsSpace, match_cons, space_chunk}
use Rattle.syntax_edit.proofs.Words.{scalars-back}
use Rattle.syntax_edit.specs.Kept.{is_line}
use Rattle.syntax_layout.proofs.Ahead.{line_end}
use Rattle.syntax_layout.proofs.AttributeChunks.{attribute_are, attribute_chunks, attribute_line, attribute_match, attribute_means, attribute_text, string_utf8}
use Rattle.syntax_layout.proofs.Chunks.{blank_match, merged_is, white}
use Rattle.syntax_layout.proofs.CommentChunks.{IsEnding, comment_chunk, comment_is, doc_text, utf8_more}
use Rattle.syntax_layout.proofs.DocumentedChunks.{Both, Documented, IsMatched, first_is}
use Rattle.syntax_layout.proofs.Recognized.{string_long}
use Rattle.syntax_layout.specs.Documented.{IsReplaced, attribute_opening, comment, first_line_end, raw_string}
use Rattle.syntax_lex.specs.Class.{is_whitespace}
use Rattle.syntax_lex.specs.Front.{behind, first, skip}
use Rattle.syntax_lex.specs.declared.token.DocStyle.{DocStyle}
use Rattle.syntax_lex.specs.declared.token.DocStyle.TheVariants.{Outer, Inner}
use Rattle.syntax_parse.proofs.ShapeParts.{begins}
use Rattle.syntax_parse.specs.Inside.{begins_with_feed}
use Rattle.syntax_parse.specs.Pieces.{doc as doc_sorts}
use Rattle.syntax_parse.specs.declared.bracket.Bracket.{Bracket}
use Rattle.syntax_unparse.proofs.Chunks.{AreChunks, Chunk, IsChunk, joined, match, means_of, tokens_of}
use Rattle.syntax_unparse.proofs.Fronts.{ascii_first, text}
use Rattle.syntax_unparse.proofs.KindFacts.{ascii_one}

-- whether all characters are of ASCII
abbrev are_low : List ℕ → Bool
are_low [] = true
are_low (c ∷ cs) = nat_lt c 128 && are_low cs

low_utf8 : (cs : List ℕ) → are_low cs ≡ true → IsUtf8 cs
low_utf8 [] h = IsUtf8-nil
low_utf8 (c ∷ cs) h = let both = and_parts (nat_lt c 128) (are_low cs) h in utf8_more c cs (ltb-true c 128 both.0) (low_utf8 cs both.1)

-- what follows a text is text
utf8_rest : (xs ys : List ℕ) → IsUtf8 xs → IsUtf8 (xs ++ ys) → IsUtf8 ys
utf8_rest xs ys front all =
    let letters : chars (xs ++ ys) ≡ chars xs ++ chars ys = chars-append xs ys front in
    let bytes : encodes (chars xs) ++ encodes (chars ys) ≡ xs ++ ys = sym (encodes-append (chars xs) (chars ys)) ∙ ap encodes (sym letters) ∙ encodes-chars (xs ++ ys) all in
    let rest : encodes (chars ys) ≡ ys = append_cancel_left xs (encodes (chars ys)) ys (ap (λ t. t ++ encodes (chars ys)) (sym (encodes-chars xs front)) ∙ bytes) in
    (chars ys, (scalars-back (chars xs) (chars ys) (ap scalars (sym letters) ∙ scalars-chars (xs ++ ys) all), rest))

utf8_behind : (b : ℕ) (rest : List ℕ) → b < 128 → IsUtf8 (b ∷ rest) → IsUtf8 rest
utf8_behind b rest low all = utf8_rest (b ∷ []) rest (IsUtf8-from_ascii (b ∷ []) (ascii_one b low)) all

-- the three ways in which a byte may go on to the end of a line
data Step (b : ℕ) (bs ending rest : List ℕ) : Type 0 where
  space : b ≡ 32 → first_line_end bs ≡ Some (ending, rest) → Step b bs ending rest
  feed : b ≡ 10 → ending ≡ [] → rest ≡ b ∷ bs → Step b bs ending rest
  returned : b ≡ 13 → begins_with_feed bs ≡ true → ending ≡ 13 ∷ [] → rest ≡ bs → Step b bs ending rest

stepped : (b : ℕ) (bs ending rest : List ℕ) → first_line_end (b ∷ bs) ≡ Some (ending, rest) → Step b bs ending rest
stepped b bs ending rest h = go (b == 32) (b == 10) ((b == 13) && begins_with_feed bs) refl refl refl h
  where
    none : List ℕ × List ℕ
    none = ([], [])

    ending_is : (it : List ℕ × List ℕ) → ◌≡◌ {A = Option (List ℕ × List ℕ)} (Some it) (Some (ending, rest)) → ending ≡ it.0
    ending_is it e = sym (ap (λ o. (unwrap_or o none).0) e)

    rest_is : (it : List ℕ × List ℕ) → ◌≡◌ {A = Option (List ℕ × List ℕ)} (Some it) (Some (ending, rest)) → rest ≡ it.1
    rest_is it e = sym (ap (λ o. (unwrap_or o none).1) e)

    go : (s f r : Bool) → (b == 32) ≡ s → (b == 10) ≡ f → ((b == 13) && begins_with_feed bs) ≡ r
        → (if s then first_line_end bs else (if f then Some ([], b ∷ bs) else (if r then Some (codes "\r", bs) else None))) ≡ Some (ending, rest) → Step b bs ending rest
    go true f r e k m h = space (eqb-true b 32 e) h
    go false true r e k m h = feed (eqb-true b 10 k) (ending_is ([], b ∷ bs) h) (rest_is ([], b ∷ bs) h)
    go false false true e k m h =
        let both = and_parts (b == 13) (begins_with_feed bs) m in
        returned (eqb-true b 13 both.0) both.1 (ending_is (codes "\r", bs) h) (rest_is (codes "\r", bs) h)
    go false false false e k m h = absurd (cc)

feed_there : (bs : List ℕ) → begins_with_feed bs ≡ true → (fs : List ℕ) × (bs ≡ 10 ∷ fs)
feed_there [] h = absurd (false≢true h)
feed_there (b ∷ bs) h = (bs, ap (λ c. c ∷ bs) (eqb-true b 10 h))

-- the text from the line feed on
record IsFed (behind ending rest : List ℕ) : Type 0 where
  fs : List ℕ
  rest_is : rest ≡ 10 ∷ fs
  utf8 : IsUtf8 behind → IsUtf8 rest
  ending_is : IsEnding ending

fed : (it ending rest : List ℕ) → first_line_end it ≡ Some (ending, rest) → IsFed it ending rest
fed [] ending rest h = absurd (cc)
fed (b ∷ bs) ending rest h = by (stepped b bs ending rest h) (λ k. fed bs ending rest k)
  where
    by : Step b bs ending rest → (first_line_end bs ≡ Some (ending, rest) → IsFed bs ending rest) → IsFed (b ∷ bs) ending rest
    by (space is k) ih =
        let inner = ih k in
        record { fs = inner.fs; rest_is = inner.rest_is; utf8 = λ u. inner.utf8 (utf8_behind b bs (omega (arith, is)) u); ending_is = inner.ending_is }
    by (feed is none e) ih = record { fs = bs; rest_is = e ∙ ap (λ c. c ∷ bs) is; utf8 = λ u. subst IsUtf8 (sym e) u; ending_is = inl none }
    by (returned is after one e) ih =
        let (fs, starts) = feed_there bs after in
        record { fs = fs; rest_is = e ∙ starts; utf8 = λ u. subst IsUtf8 (sym e) (utf8_behind b bs (omega (arith, is)) u); ending_is = inr one }

-- what is before the line feed and in the white space there, as one chunk
record Tail (it : List ℕ) (ns : List Chunk) : Type 0 where
  w : List ℕ
  is : IsChunk (white w) ns
  text_is : w ++ joined ns ≡ it
  all : behind is_whitespace (text (white w ∷ ns)) ≡ text ns

one_more : (b : ℕ) (bs : List ℕ) (ns : List Chunk) → b < 128 → is_whitespace b ≡ true → Tail bs ns → Tail (b ∷ bs) ns
one_more b bs ns low blank it = record {
  w = b ∷ it.w;
  is = merged_is b (white it.w) ns low blank it.is it.all;
  text_is = ap (λ t. b ∷ t) it.text_is;
  all =
      ap (behind is_whitespace) (ascii_first b (it.w ++ joined ns) low)
      ∙ ap (λ s. if s then behind is_whitespace (text (white it.w ∷ ns)) else b ∷ text (white it.w ∷ ns)) blank
      ∙ it.all;
}

tail : (it ending rest : List ℕ) (n : Chunk) (ns : List Chunk) → first_line_end it ≡ Some (ending, rest) → IsChunk n ns → IsSpace n ns → joined (n ∷ ns) ≡ rest → Tail it ns
tail [] ending rest n ns h is blank e = absurd (cc)
tail (b ∷ bs) ending rest n ns h is blank e = by (stepped b bs ending rest h) (λ k. tail bs ending rest n ns k is blank e)
  where
    alone : IsChunk (white n.text) ns
    alone = record { utf8 = is.utf8; some = is.some; reads = is.reads ∙ ap (λ k. (k, text ns)) blank.kind; role = refl; means = λ part at. refl }

    by : Step b bs ending rest → (first_line_end bs ≡ Some (ending, rest) → Tail bs ns) → Tail (b ∷ bs) ns
    by (space here k) ih = one_more b bs ns (omega (arith, here)) (ap is_whitespace here) (ih k)
    by (feed here none k) ih = record { w = n.text; is = alone; text_is = e ∙ k; all = blank.all }
    by (returned here after one k) ih = one_more b bs ns (omega (arith, here)) (ap is_whitespace here) (record { w = n.text; is = alone; text_is = e ∙ k; all = blank.all })

opening_utf8 : (style : DocStyle) → IsUtf8 (attribute_opening style)
opening_utf8 style = low_utf8 (attribute_opening style) (by style)
  where
    by : (style : DocStyle) → are_low (attribute_opening style) ≡ true
    by Outer = refl
    by Inner = refl

-- what follows an attribute that is replaced is text
pub rest_utf8 : (style : DocStyle) (doc ending rest source : List ℕ) → IsUtf8 source → (it : IsReplaced style doc ending rest source) → IsUtf8 rest
rest_utf8 style doc ending rest source utf8 it =
    let opening = attribute_opening style in
    let literal = utf8_rest opening it.literal (opening_utf8 style) (subst IsUtf8 it.opens utf8) in
    let closed = utf8_rest (raw_string doc) (93 ∷ it.behind) (string_utf8 doc (doc_text doc it.closed.utf8 it.line) it.closed.few) (subst IsUtf8 it.closed.is literal) in
    (fed it.behind ending rest it.ends).utf8 (utf8_behind 93 it.behind (omega arith) closed)

comment_front : (style : DocStyle) (more : List ℕ) (xs : List ℕ) → is_whitespace (first (chars (comment style more ++ xs))) ≡ false
comment_front Outer more xs = ap (λ t. is_whitespace (first t)) (ascii_first 47 (47 ∷ 47 ∷ (more ++ xs)) (omega arith))
comment_front Inner more xs = ap (λ t. is_whitespace (first t)) (ascii_first 47 (47 ∷ 33 ∷ (more ++ xs)) (omega arith))

pub both_becomes : (style : DocStyle) (doc ending rest source written : List ℕ) → IsReplaced style doc ending rest source → Both false rest written → Both true source (comment style (doc ++ ending) ++ written)
both_becomes style doc ending rest source written it inner = go inner.old inner.are inner.text_is inner.told
  where
    feeds : IsFed it.behind ending rest
    feeds = fed it.behind ending rest it.ends

    go : (old : List Chunk) → AreChunks old → joined old ≡ rest → (IsMatched old → Documented false old written) → Both true source (comment style (doc ++ ending) ++ written)
    go [] are e told = absurd (omega (arith, ap length (e ∙ feeds.rest_is)))
    go (n ∷ ns) are e told = record {
      old = old;
      are = attribute_are style doc (white t.w ∷ ns) (doc_text doc it.closed.utf8 it.line) it.closed.few (t.is, are.1);
      text_is =
          attribute_text style doc (white t.w ∷ ns) ∙ ap (λ u. attribute_opening style ++ (raw_string doc ++ 93 ∷ u)) t.text_is
          ∙ sym (it.opens ∙ ap (λ u. attribute_opening style ++ u) it.closed.is);
      told = λ matched. write (told (matched.0, sym (same_match matched.0) ∙ matched.1));
    }
      where
        letter : first (text (n ∷ ns)) ≡ 10
        letter = ap (λ u. first (chars u)) (e ∙ feeds.rest_is) ∙ ap first (ascii_first 10 feeds.fs (omega arith))

        blank : IsSpace n ns
        blank = space_chunk n ns are.0 (ap is_whitespace (sym (first_is n ns are.0.utf8 are.0.some) ∙ letter))

        t : Tail it.behind ns
        t = tail it.behind ending rest n ns it.ends are.0 blank e

        old : List Chunk
        old = attribute_chunks style doc (white t.w ∷ ns)

        same_match : (opened : List Bracket) → match opened old ≡ match opened (n ∷ ns)
        same_match opened = attribute_match style doc (white t.w ∷ ns) opened ∙ blank_match opened (white t.w) ns refl ∙ sym (blank_match opened n ns blank.role)

        write : Documented false (n ∷ ns) written → Documented true old (comment style (doc ++ ending) ++ written)
        write d =
            let start : text d.new ≡ 10 ∷ skip (text d.new) = begins (text d.new) 9 ((d.same refl).letter ∙ letter) in
            let it_is = comment_is style doc ending d.new (skip (text d.new)) it.closed.utf8 feeds.ending_is it.line it.documents it.closed.few start in
            record {
              new = comment_chunk style doc ending ∷ d.new;
              are = (it_is, d.are);
              text_is = ap (λ u. comment style (doc ++ ending) ++ u) d.text_is;
              means = ap (λ u. doc_sorts style doc ++ u) (d.means ∙ ap (λ m. m ++ means_of ns) blank.means) ∙ sym (attribute_means style doc (white t.w ∷ ns));
              matches = λ opened. match_cons opened (comment_chunk style doc ending) d.new ∙ d.matches opened ∙ sym (same_match opened);
              line = λ before. d.line true ∙ ap (λ k. line_end (is_line k) (tokens_of ns)) blank.kind ∙ sym (attribute_line style doc (white t.w ∷ ns) before);
              front = λ h. comment_front style (doc ++ ending) (joined d.new);
              same = λ none. absurd (false≢true (sym none));
            }

-- the text from the line feed on is shorter
end_short : (it ending rest : List ℕ) → first_line_end it ≡ Some (ending, rest) → length ending + length rest ≤ length it
end_short [] ending rest h = absurd (cc)
end_short (b ∷ bs) ending rest h = by (stepped b bs ending rest h) (λ k. end_short bs ending rest k)
  where
    by : Step b bs ending rest → (first_line_end bs ≡ Some (ending, rest) → length ending + length rest ≤ length bs) → length ending + length rest ≤ length (b ∷ bs)
    by (space is k) ih = omega (arith, ih k)
    by (feed is none e) ih = omega (arith, ap length none, ap length e)
    by (returned is after one e) ih = omega (arith, ap length one, ap length e)

comment_long : (style : DocStyle) (doc ending : List ℕ) → length (comment style (doc ++ ending)) ≡ 3 + (length doc + length ending)
comment_long Outer doc ending = omega (arith, length-append doc ending)
comment_long Inner doc ending = omega (arith, length-append doc ending)

opening_long : (style : DocStyle) (more : List ℕ) → 8 + length more ≤ length (attribute_opening style ++ more)
opening_long Outer more = omega arith
opening_long Inner more = omega arith

-- a comment is shorter than what it replaces
pub replaced_short : (style : DocStyle) (doc ending rest source : List ℕ) → IsReplaced style doc ending rest source → length (comment style (doc ++ ending)) + length rest < length source
replaced_short style doc ending rest source it =
    omega (
      arith,
      ap length it.opens,
      opening_long style it.literal,
      ap length it.closed.is,
      length-append (raw_string doc) (93 ∷ it.behind),
      string_long doc,
      end_short it.behind ending rest it.ends,
      comment_long style doc ending,
    )

pub comment_some : (style : DocStyle) (doc ending : List ℕ) → 0 < length (comment style (doc ++ ending))
comment_some style doc ending = omega (arith, comment_long style doc ending)
