-- The text of a documenting comment: it has no bare carriage return, and the raw string that it becomes reads alone.
use Rattle.std.proofs.Common.{◌≡◌, ℕ, Bool, true, false, ◌==◌, ◌||◌, ◌&&◌, not, List, [], ◌∷◌, ◌++◌, refl, sym, ap, ◌∙◌, suc, ◌+◌, ◌-◌, ◌<◌, ◌≤◌, length, take, drop, max, subst, arith, if◌then◌else◌, zero, replicate, Some, append_assoc}
use Rattle.std.proofs.Math.Seq.{take-append_seam}
use Rattle.std.proofs.Math.Utf8.{encodes}
use Rattle.std.proofs.lemmas.Bool.Decides.{Decides-eqb}
use Rattle.std.proofs.lemmas.Bool.{eqb-true, false≢true, not-false, or_from, or_parts, lt-ltb}
use Rattle.std.proofs.lemmas.Slice.Eq.{ends_is, starts_is}
use Rattle.std.proofs.lemmas.Str.{IsCharBoundary-at_seam, IsUtf8-append, IsUtf8-from_ascii, IsUtf8-past_char, IsUtf8-take, encode_ascii, encodes-append, encodes-chars, scalars-chars}
use Rattle.std.specs.List.{ends_with, starts_with}
use Rattle.std.specs.Prelude.{codes, nat_eq}
use Rattle.std.specs.Str.{IsUtf8, chars}
use Rattle.syntax_edit.proofs.QuotedAlone.{text_bytes, written_alone}
use Rattle.syntax_edit.proofs.QuotedTexts.{IsAll, raw_alone, raw_opens, text_in}
use Rattle.syntax_edit.proofs.Roles.{raw_role}
use Rattle.syntax_lex.proofs.TwinWords.{byte_length-is}
use Rattle.syntax_lex.proofs.TokenFacts.{byte_length-nil}
use Rattle.syntax_lex.specs.Closing.{hashes_of, raw_text}
use Rattle.syntax_lex.specs.Front.{byte_length}
use Rattle.syntax_lex.specs.Grammar.{IsRawText}
use Rattle.syntax_lex.specs.Literals.{raw}
use Rattle.syntax_lex.specs.Reading.{reading, reading_of}
use Rattle.syntax_lex.specs.declared.token.DocStyle.TheVariants.{Outer, Inner}
use Rattle.syntax_lex.specs.declared.token.DocStyle.{DocStyle}
use Rattle.syntax_lex.specs.declared.token.LiteralKind.TheVariants as literals
use Rattle.syntax_lex.specs.declared.token.LiteralKind.{LiteralKind}
use Rattle.syntax_parse.specs.Doc.{behind_line_opening, behind_opening, block_text, hashes_wanted, line_text, longest_run, next_run, without_prefix, without_suffix}
use Rattle.syntax_parse.specs.Inside.{bare_return, begins_with_feed, inner_return}
use Rattle.syntax_unparse.proofs.KindFacts.{ascii_one}
use Rattle.syntax_unparse.specs.Writable.{ReadsAlone}
use Rattle.tt_base.specs.Literal.{kind_of, suffix_len_of, symbol_of}
use Rattle.tt_base.specs.declared.leaf.Leaf.TheVariants as leaf_of
use Rattle.tt_base.specs.declared.literal.LitKind.TheVariants as lit
use Rattle.tt_base.specs.declared.literal.Literal.{Literal}

-- after a part that has no bare one
pub bare_behind : (xs ys : List ℕ) → bare_return (xs ++ ys) ≡ false → bare_return ys ≡ false
bare_behind [] ys none = none
bare_behind (x ∷ xs) ys none = bare_behind xs ys (or_parts _ (bare_return (xs ++ ys)) none).1

pub inner_behind : (xs ys : List ℕ) → inner_return (xs ++ ys) ≡ false → inner_return ys ≡ false
inner_behind [] ys none = none
inner_behind (x ∷ xs) ys none = inner_behind xs ys (tail (xs ++ ys) none)
  where
    tail : (t : List ℕ) → inner_return (x ∷ t) ≡ false → inner_return t ≡ false
    tail [] h = refl
    tail (y ∷ t) h = (or_parts ((x == 13) && not (y == 10)) (inner_return (y ∷ t)) h).1

-- before a character that is no line feed
pub bare_before : (xs : List ℕ) (c : ℕ) (ys : List ℕ) → (c == 10) ≡ false → bare_return (xs ++ c ∷ ys) ≡ false → bare_return xs ≡ false
bare_before [] c ys feed none = refl
bare_before (x ∷ []) c ys feed none =
    let first = (or_parts ((x == 13) && not (c == 10)) (bare_return (c ∷ ys)) none).0 in
    or_from ((x == 13) && true) false (ap (λ b. (x == 13) && not b) (sym feed) ∙ first) refl
bare_before (x ∷ y ∷ xs) c ys feed none =
    let both = or_parts ((x == 13) && not (y == 10)) (bare_return (y ∷ (xs ++ c ∷ ys))) none in
    or_from _ (bare_return (y ∷ xs)) both.0 (bare_before (y ∷ xs) c ys feed both.1)

pub inner_before : (xs : List ℕ) (c : ℕ) (ys : List ℕ) → (c == 10) ≡ false → inner_return (xs ++ c ∷ ys) ≡ false → bare_return xs ≡ false
inner_before [] c ys feed none = refl
inner_before (x ∷ []) c ys feed none =
    let first = (or_parts ((x == 13) && not (c == 10)) (inner_return (c ∷ ys)) none).0 in
    or_from ((x == 13) && true) false (ap (λ b. (x == 13) && not b) (sym feed) ∙ first) refl
inner_before (x ∷ y ∷ xs) c ys feed none =
    let both = or_parts ((x == 13) && not (y == 10)) (inner_return (y ∷ (xs ++ c ∷ ys))) none in
    or_from _ (bare_return (y ∷ xs)) both.0 (inner_before (y ∷ xs) c ys feed both.1)

-- a text that does not end with one
pub no_last : (xs : List ℕ) → ((front : List ℕ) → xs ≡ front ++ 13 ∷ [] → ⊥) → inner_return xs ≡ false → bare_return xs ≡ false
no_last [] last none = refl
no_last (x ∷ []) last none = go (x == 13) refl
  where
    go : (b : Bool) → (x == 13) ≡ b → bare_return (x ∷ []) ≡ false
    go true e = absurd (last [] (ap (λ c. c ∷ []) (eqb-true x 13 e)))
    go false e = rw e refl
no_last (x ∷ y ∷ xs) last none =
    let both = or_parts ((x == 13) && not (y == 10)) (inner_return (y ∷ xs)) none in
    or_from _ (bare_return (y ∷ xs)) both.0 (no_last (y ∷ xs) (λ front e. last (x ∷ front) (ap (λ t. x ∷ t) e)) both.1)

-- a line feed at the front stays there
feed_stays : (xs ys : List ℕ) → begins_with_feed xs ≡ true → begins_with_feed (xs ++ ys) ≡ true
feed_stays [] ys is = absurd (false≢true is)
feed_stays (x ∷ xs) ys is = is

-- a text with no bare carriage return adds none
pub bare_joined : (xs ys : List ℕ) → bare_return xs ≡ false → bare_return (xs ++ ys) ≡ bare_return ys
bare_joined [] ys none = refl
bare_joined (x ∷ xs) ys none =
    let both = or_parts ((x == 13) && not (begins_with_feed xs)) (bare_return xs) none in
    ap (λ b. b || bare_return (xs ++ ys)) (first (x == 13) both.0) ∙ bare_joined xs ys both.1
  where
    first : (b : Bool) → (b && not (begins_with_feed xs)) ≡ false → (b && not (begins_with_feed (xs ++ ys))) ≡ false
    first false h = refl
    first true h = ap (λ f. not f) (feed_stays xs ys (not-false (begins_with_feed xs) h))

-- the longest run is no shorter than a known one
most_le : (text : List ℕ) (run most : ℕ) → most ≤ longest_run run most text
most_le [] run most = omega arith
most_le (x ∷ xs) run most = omega (arith, most_le xs (next_run run x) (max most (next_run run x)))

-- it is no shorter than a run with the hashes after it
run_le : (text : List ℕ) (run most : ℕ) → 0 < run → run ≤ most → run + hashes_of text ≤ longest_run run most text
run_le [] run most some le = omega (arith, le)
run_le (x ∷ xs) run most some le = go (x == 35) refl (run_le xs (run + 1) (max most (run + 1)) (omega arith) (omega arith))
  where
    go : (b : Bool) → (x == 35) ≡ b → (run + 1) + hashes_of xs ≤ longest_run (run + 1) (max most (run + 1)) xs → run + hashes_of (x ∷ xs) ≤ longest_run run most (x ∷ xs)
    go false e inner = let none : hashes_of (x ∷ xs) ≡ 0 = rw e refl in omega (arith, le, none, most_le (x ∷ xs) run most)
    go true e inner =
        let hash : hashes_of (x ∷ xs) ≡ suc (hashes_of xs) = rw e refl in
        let next : next_run run x ≡ run + 1 = ap (next_run run) (eqb-true x 35 e) ∙ rw (lt-ltb 0 run some) refl in
        let more : longest_run run most (x ∷ xs) ≡ longest_run (run + 1) (max most (run + 1)) xs = ap (λ n. longest_run n (max most n) xs) next in
        omega (arith, hash, more, inner)

-- it is no shorter than a quote with the hashes after it
quote_le : (front behind : List ℕ) (run most : ℕ) → 1 + hashes_of behind ≤ longest_run run most (front ++ 34 ∷ behind)
quote_le [] behind run most = run_le behind 1 (max most 1) (omega arith) (omega arith)
quote_le (x ∷ xs) behind run most = quote_le xs behind (next_run run x) (max most (next_run run x))

-- a text has as many hashes at its front as its bytes have, or fewer
hashes_bytes : (cs : List ℕ) → hashes_of cs ≤ hashes_of (encodes cs)
hashes_bytes [] = omega arith
hashes_bytes (c ∷ cs) = go (c == 35) refl (hashes_bytes cs)
  where
    go : (b : Bool) → (c == 35) ≡ b → hashes_of cs ≤ hashes_of (encodes cs) → hashes_of (c ∷ cs) ≤ hashes_of (encodes (c ∷ cs))
    go false e ih = let none : hashes_of (c ∷ cs) ≡ 0 = rw e refl in omega (arith, none)
    go true e ih =
        let hash : hashes_of (c ∷ cs) ≡ suc (hashes_of cs) = rw e refl in
        let bytes : encodes (c ∷ cs) ≡ 35 ∷ encodes cs = ap (λ d. encodes (d ∷ cs)) (eqb-true c 35 e) ∙ ap (λ t. t ++ encodes cs) (encode_ascii 35 (omega arith)) in
        let same : hashes_of (encodes (c ∷ cs)) ≡ suc (hashes_of (encodes cs)) = ap hashes_of bytes in
        omega (arith, hash, same, ih)

-- the hashes that a text needs keep it
pub wanted_keep : (body : List ℕ) → IsRawText (hashes_wanted (encodes body)) body
wanted_keep body front behind are =
    let bytes : encodes body ≡ encodes front ++ 34 ∷ encodes behind =
    ap encodes are ∙ encodes-append front (34 ∷ behind) ∙ ap (λ t. encodes front ++ (t ++ encodes behind)) (encode_ascii 34 (omega arith)) in
    let long : hashes_wanted (encodes body) ≡ longest_run 0 0 (encodes front ++ 34 ∷ encodes behind) = ap hashes_wanted bytes in
    omega (arith, long, quote_le (encodes front) (encodes behind) 0 0, hashes_bytes behind)

-- what holds of a text with and without a prefix holds after the prefix is dropped
without_prefix_is : (P : List ℕ → Type 0) (prefix text : List ℕ) → P text → ((rest : List ℕ) → text ≡ prefix ++ rest → P rest) → P (without_prefix prefix text)
without_prefix_is P prefix text all part = go (starts_with nat_eq text prefix) refl
  where
    go : (b : Bool) → starts_with nat_eq text prefix ≡ b → P (if b then drop (length prefix) text else text)
    go true e = part (drop (length prefix) text) ((starts_is Decides-eqb text prefix _ refl).0 e)
    go false e = all

-- the same for a suffix
without_suffix_is : (P : List ℕ → Type 0) (suffix text : List ℕ) → (((front : List ℕ) → text ≡ front ++ suffix → ⊥) → P text) → ((front : List ℕ) → text ≡ front ++ suffix → P front) → P (without_suffix suffix text)
without_suffix_is P suffix text all part = go (ends_with nat_eq text suffix) refl
  where
    go : (b : Bool) → ends_with nat_eq text suffix ≡ b → P (if b then take (length text - length suffix) text else text)
    go true e = part (take (length text - length suffix) text) ((ends_is Decides-eqb text suffix _ refl).0 e)
    go false e = all (λ front is. false≢true (sym e ∙ (ends_is Decides-eqb text suffix _ refl).1 front is))

-- a text after and before ASCII characters
pub utf8_behind : (c : ℕ) (rest : List ℕ) → c < 128 → IsUtf8 (c ∷ rest) → IsUtf8 rest
utf8_behind c rest low utf8 = IsUtf8-past_char (c ∷ rest) rest c utf8 (ap (λ t. t ++ rest) (sym (encode_ascii c low)))

pub utf8_before : (xs ys : List ℕ) → IsUtf8 ys → IsUtf8 (xs ++ ys) → IsUtf8 xs
utf8_before xs ys last utf8 = subst IsUtf8 (take-append_seam xs ys) (IsUtf8-take (xs ++ ys) (length xs) utf8 (IsCharBoundary-at_seam (xs ++ ys) xs ys refl last))

utf8_both : (a b : ℕ) → a < 128 → b < 128 → IsUtf8 (a ∷ b ∷ [])
utf8_both a b low few = IsUtf8-append (a ∷ []) (b ∷ []) (IsUtf8-from_ascii (a ∷ []) (ascii_one a low)) (IsUtf8-from_ascii (b ∷ []) (ascii_one b few))

-- the text of a documenting comment: it has no bare carriage return, whatever follows it
pub record IsDocText (text : List ℕ) : Type 0 where
  pub utf8 : IsUtf8 text
  pub quiet : bare_return text ≡ false

abbrev IsLine : List ℕ → Type 0
IsLine text = IsUtf8 text × (inner_return text ≡ false)

behind_three : (a b c : ℕ) (rest : List ℕ) → a < 128 → b < 128 → c < 128 → IsUtf8 (a ∷ b ∷ c ∷ rest) → IsUtf8 rest
behind_three a b c rest low few less utf8 = utf8_behind c rest less (utf8_behind b (c ∷ rest) few (utf8_behind a (b ∷ c ∷ rest) low utf8))

behind_line : (style : DocStyle) (word : List ℕ) → IsLine word → IsLine (behind_line_opening style word)
behind_line Outer word it =
    without_prefix_is IsLine (codes "///") word it (λ rest e. (behind_three 47 47 47 rest (omega arith) (omega arith) (omega arith) (subst IsUtf8 e it.0), inner_behind (codes "///") rest (sym (ap inner_return e) ∙ it.1)))
behind_line Inner word it =
    without_prefix_is IsLine (codes "//!") word it (λ rest e. (behind_three 47 47 33 rest (omega arith) (omega arith) (omega arith) (subst IsUtf8 e it.0), inner_behind (codes "//!") rest (sym (ap inner_return e) ∙ it.1)))

-- of a comment of one line
pub line_doc : (style : DocStyle) (word : List ℕ) → IsUtf8 word → inner_return word ≡ false → IsDocText (line_text style word)
line_doc style word utf8 none =
    let text = behind_line_opening style word in
    let it = behind_line style word (utf8, none) in
    without_suffix_is IsDocText (codes "\r") text (λ last. record { utf8 = it.0; quiet = no_last text last it.1 })
    (λ front e. record {
      utf8 = utf8_before front (13 ∷ []) (IsUtf8-from_ascii (13 ∷ []) (ascii_one 13 (omega arith))) (subst IsUtf8 e it.0);
      quiet = inner_before front 13 [] refl (sym (ap inner_return e) ∙ it.1);
    })

behind_signs : (style : DocStyle) (word : List ℕ) → IsDocText word → IsDocText (behind_opening style word)
behind_signs Outer word it =
    without_prefix_is IsDocText (codes "/**") word it
    (λ rest e. record { utf8 = behind_three 47 42 42 rest (omega arith) (omega arith) (omega arith) (subst IsUtf8 e it.utf8); quiet = bare_behind (codes "/**") rest (sym (ap bare_return e) ∙ it.quiet) })
behind_signs Inner word it =
    without_prefix_is IsDocText (codes "/*!") word it
    (λ rest e. record { utf8 = behind_three 47 42 33 rest (omega arith) (omega arith) (omega arith) (subst IsUtf8 e it.utf8); quiet = bare_behind (codes "/*!") rest (sym (ap bare_return e) ∙ it.quiet) })

-- of a block comment
pub block_doc : (style : DocStyle) (word : List ℕ) → IsUtf8 word → bare_return word ≡ false → IsDocText (block_text style word)
block_doc style word utf8 none =
    let text = behind_opening style word in
    let it = behind_signs style word (record { utf8 = utf8; quiet = none }) in
    without_suffix_is IsDocText (codes "*/") text (λ last. it)
    (λ front e. record {
      utf8 = utf8_before front (42 ∷ 47 ∷ []) (utf8_both 42 47 (omega arith) (omega arith)) (subst IsUtf8 e it.utf8);
      quiet = bare_before front 42 (47 ∷ []) refl (sym (ap bare_return e) ∙ it.quiet);
    })

-- hashes are no carriage returns
quiet_hashes : (n : ℕ) (rest : List ℕ) → bare_return (replicate n 35 ++ rest) ≡ bare_return rest
quiet_hashes zero rest = refl
quiet_hashes (suc n) rest = quiet_hashes n rest

quiet_end : (n : ℕ) → bare_return (replicate n 35) ≡ false
quiet_end zero = refl
quiet_end (suc n) = quiet_end n

-- the quotes around a text are none either
quiet_text : (n : ℕ) (text : List ℕ) → bare_return text ≡ false → bare_return (text_in (literals.RawStr (Some n)) text) ≡ false
quiet_text n text quiet =
    let tail : List ℕ = text ++ 34 ∷ replicate n 35 in
    ap bare_return (append_assoc (replicate n 35) (34 ∷ []) tail) ∙ quiet_hashes n (34 ∷ tail) ∙ bare_joined text (34 ∷ replicate n 35) quiet ∙ quiet_end n

-- an `r` before hashes and a quote opens a raw string
raw_reads : (n : ℕ) (t : List ℕ) → reading (114 ∷ (replicate n 35 ++ 34 ∷ t)) ≡ raw (114 ∷ (replicate n 35 ++ 34 ∷ t)) literals.RawStr (raw_text (replicate n 35 ++ 34 ∷ t))
unfolding reading reading_of
raw_reads n t = let rest : List ℕ = replicate n 35 ++ 34 ∷ t in ap (λ f. reading_of f (114 ∷ rest) rest) (raw_opens n t)

-- a text in a raw string reads alone, if the number of hashes that it needs fits into a byte
pub doc_alone : (text : List ℕ) → IsDocText text → hashes_wanted text < 256
    → (literal : Literal) → symbol_of literal ≡ text → kind_of literal ≡ lit.StrRaw (hashes_wanted text) → suffix_len_of literal ≡ 0 → ReadsAlone (leaf_of.Literal literal)
doc_alone text it few literal symbol sort len =
    written_alone kind body (byte_length whole - byte_length []) refl (scalars-chars text it.utf8) read place
    (raw_role n (byte_length whole - byte_length []) (encodes whole) (place ∙ byte_length-is whole) (ap bare_return (text_bytes kind body) ∙ quiet_text n (encodes body) (ap bare_return bytes ∙ it.quiet)))
    literal (symbol ∙ sym bytes) sort len
  where
    n : ℕ
    n = hashes_wanted text

    kind : LiteralKind
    kind = literals.RawStr (Some n)

    body : List ℕ
    body = chars text

    bytes : encodes body ≡ text
    bytes = encodes-chars text it.utf8

    whole : List ℕ
    whole = text_in kind body

    place : byte_length whole - byte_length [] ≡ byte_length whole
    place = omega (arith, byte_length-nil)

    read : IsAll kind whole
    read =
        raw_alone (114 ∷ []) body n literals.RawStr few (subst (λ t. IsRawText (hashes_wanted t) body) bytes (wanted_keep body))
        (λ t. raw_reads n t)
