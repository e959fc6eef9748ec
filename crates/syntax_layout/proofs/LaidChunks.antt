-- The chunks of a text that is laid out.
use Rattle.std.proofs.Common.{◌≡◌, ◌⊎◌, inl, inr, ℕ, ◌+◌, Bool, true, false, ◌==◌, ◌||◌, ◌&&◌, not, List, [], ◌∷◌, ◌++◌, length, take, drop, get_or, Option, refl, sym, ap, ap₂, ◌∙◌, ⊎_elim, subst, arith, append_assoc, append-nil, if◌then◌else◌}
use Rattle.std.proofs.lemmas.Bool.{false≢true, and_parts, eqb-true}
use Rattle.std.proofs.lemmas.Str.{IsUtf8-append, IsUtf8-nil, chars-append}
use Rattle.std.proofs.Math.Seq.{drop-append_seam, take-append_seam}
use Rattle.std.specs.Str.{chars, IsUtf8}
use Rattle.syntax_edit.proofs.KindFacts.{pieces_same}
use Rattle.syntax_edit.proofs.Seams.{empty_front, match_behind}
use Rattle.syntax_edit.specs.Kept.{ends_in_line, is_line}
use Rattle.syntax_edit.specs.Whole.{is_whole}
use Rattle.syntax_layout.proofs.Between.{Begins, Keeps, Stands, between_put, ending_put, not_true, put_alone, put_gap}
use Rattle.syntax_layout.proofs.Chunks.{Put, blank_match}
use Rattle.syntax_layout.proofs.GapChunks.{blank_kind, blank_means, blank_role, gap_chunks, gap_get, word_front}
use Rattle.syntax_layout.proofs.Words.{IsWord, ends_longer, word_is}
use Rattle.syntax_layout.specs.Gap.{AreGaps, is_blank}
use Rattle.syntax_layout.specs.Layout.{are_plain, between, ending, ends_before, joins, laid, parting, put_before, touched, touches_surely}
use Rattle.syntax_lex.specs.declared.token.TokenKind.{TokenKind}
use Rattle.syntax_lex.specs.declared.token.TokenKind.TheVariants as kinds
use Rattle.syntax_parse.specs.Parsed.{next_kind}
use Rattle.syntax_parse.specs.Pieces.{spacing_before}
use Rattle.syntax_parse.specs.declared.bracket.Bracket.{Bracket}
use Rattle.syntax_unparse.proofs.Chunks.{AreChunks, Chunk, IsChunk, joined, match, means_of, tokens_of}
use Rattle.tt_base.specs.TreeText.{space_if}
use Rattle.tt_base.specs.declared.punct.Spacing.TheVariants.{Alone}

-- the chunks of what is laid out
pub record Laid (first touching : Bool) (kind : TokenKind) (before : List ℕ) (used : ℕ) (xs : List Chunk) (gaps : List (List ℕ)) : Type 0 where
  pub new : List Chunk
  pub are : AreChunks new
  pub text_is : joined new ≡ laid first touching kind before used (joined xs) (tokens_of xs) gaps
  pub means : means_of new ≡ means_of xs
  pub matches : (opened : List Bracket) → match opened new ≡ match opened xs
  pub line : ends_in_line (tokens_of new) ≡ false

-- no word is a comment
whole_line : (kind : TokenKind) → is_whole kind ≡ true → is_line kind ≡ false
whole_line (kinds.LineComment doc) h = absurd (false≢true h)
whole_line kind h = refl

word_line : (y : Chunk) (new : List Chunk) → is_line y.kind ≡ false → ends_in_line (tokens_of new) ≡ false → ends_in_line (tokens_of (y ∷ new)) ≡ false
word_line y [] h k = h
word_line y (z ∷ zs) h k = k

-- a blank is passed
blank_text : (first touching : Bool) (kind : TokenKind) (before : List ℕ) (used : ℕ) (y : Chunk) (ys : List Chunk) (gaps : List (List ℕ)) → is_blank y.kind ≡ true
    → laid first touching kind before used (joined (y ∷ ys)) (tokens_of (y ∷ ys)) gaps ≡ laid first false kind before used (joined ys) (tokens_of ys) gaps
blank_text first touching kind before used y ys gaps h =
    let n = length y.text in
    let t = y.text ++ joined ys in
    ap
    (λ b. if b then laid first false kind before used (drop n t) (tokens_of ys) gaps
    else (put_before first touching (joins kind y.kind) before (get_or gaps used []) (take n t ++ touched true y.kind (take n t) (get_or gaps (used + 1) []) (drop n t) (tokens_of ys)) ++ take n t) ++ laid false true y.kind (take n t) (used + 1) (drop n t) (tokens_of ys) gaps) h
    ∙ ap (λ r. laid first false kind before used r (tokens_of ys) gaps) (drop-append_seam y.text (joined ys))

-- a token, and what it touches for sure
abbrev pub front_of : (gap : List ℕ) → Chunk → List Chunk → List ℕ
front_of gap y ys = y.text ++ touched true y.kind y.text gap (joined ys) (tokens_of ys)

-- what a token touches for sure, by the chunks behind it
touched_is : (touching : Bool) (kind : TokenKind) (before gap : List ℕ) (z : Chunk) (zs : List Chunk) → touched touching kind before gap (joined (z ∷ zs)) (tokens_of (z ∷ zs))
    ≡ (if is_blank z.kind then touched false kind before gap (joined zs) (tokens_of zs) else (if touches_surely touching (joins kind z.kind) before gap z.text then z.text else []))
touched_is touching kind before gap z zs =
    ap₂ (λ w r. if is_blank z.kind then touched false kind before gap r (tokens_of zs) else (if touches_surely touching (joins kind z.kind) before gap w then w else []))
    (take-append_seam z.text (joined zs)) (drop-append_seam z.text (joined zs))

-- a token is written
word_text : (first touching : Bool) (kind : TokenKind) (before : List ℕ) (used : ℕ) (y : Chunk) (ys : List Chunk) (gaps : List (List ℕ)) → is_blank y.kind ≡ false
    → laid first touching kind before used (joined (y ∷ ys)) (tokens_of (y ∷ ys)) gaps
    ≡ (put_before first touching (joins kind y.kind) before (get_or gaps used []) (front_of (get_or gaps (used + 1) []) y ys) ++ y.text) ++ laid false true y.kind y.text (used + 1) (joined ys) (tokens_of ys) gaps
word_text first touching kind before used y ys gaps h =
    let n = length y.text in
    let t = y.text ++ joined ys in
    ap
    (λ b. if b then laid first false kind before used (drop n t) (tokens_of ys) gaps
    else (put_before first touching (joins kind y.kind) before (get_or gaps used []) (take n t ++ touched true y.kind (take n t) (get_or gaps (used + 1) []) (drop n t) (tokens_of ys)) ++ take n t) ++ laid false true y.kind (take n t) (used + 1) (drop n t) (tokens_of ys) gaps) h
    ∙ ap₂ (λ w r. (put_before first touching (joins kind y.kind) before (get_or gaps used []) (w ++ touched true y.kind w (get_or gaps (used + 1) []) r (tokens_of ys)) ++ w) ++ laid false true y.kind w (used + 1) r (tokens_of ys) gaps)
    (take-append_seam y.text (joined ys)) (drop-append_seam y.text (joined ys))

-- with what is put before it
abbrev put_word : (first touching : Bool) (kind : TokenKind) (before : List ℕ) (used : ℕ) (y : Chunk) (ys : List Chunk) (gaps : List (List ℕ)) → is_blank y.kind ≡ false → is_whole y.kind ≡ true
    → (inner : Laid false true y.kind y.text (used + 1) ys gaps)
    → (it : Put (put_before first touching (joins kind y.kind) before (get_or gaps used []) (front_of (get_or gaps (used + 1) []) y ys)) (y ∷ inner.new)) → Laid first touching kind before used (y ∷ ys) gaps
put_word first touching kind before used y ys gaps apart whole inner it =
    let put = put_before first touching (joins kind y.kind) before (get_or gaps used []) (front_of (get_or gaps (used + 1) []) y ys) in
    record {
      new = it.new;
      are = it.are;
      text_is =
          it.text_is ∙ ap (λ t. put ++ (y.text ++ t)) inner.text_is
          ∙ sym (append_assoc put y.text (laid false true y.kind y.text (used + 1) (joined ys) (tokens_of ys) gaps))
          ∙ sym (word_text first touching kind before used y ys gaps apart);
      means = it.means ∙ ap (λ t. y.means ++ t) inner.means;
      matches = λ opened. it.matches opened ∙ match_behind y inner.new ys inner.matches opened;
      line = it.line (word_line y inner.new (whole_line y.kind whole) inner.line);
    }

abbrev pass_blank : (first touching : Bool) (kind : TokenKind) (before : List ℕ) (used : ℕ) (y : Chunk) (ys : List Chunk) (gaps : List (List ℕ)) → is_blank y.kind ≡ true → IsChunk y ys
    → Laid first false kind before used ys gaps → Laid first touching kind before used (y ∷ ys) gaps
pass_blank first touching kind before used y ys gaps blank it inner = record {
  new = inner.new;
  are = inner.are;
  text_is = inner.text_is ∙ sym (blank_text first touching kind before used y ys gaps blank);
  means = inner.means ∙ ap (λ t. t ++ means_of ys) (sym (blank_means y ys it blank));
  matches = λ opened. inner.matches opened ∙ sym (blank_match opened y ys (blank_role y ys it blank));
  line = inner.line;
}

or_either : (a b : Bool) → (a || b) ≡ true → (a ≡ true) ⊎ (b ≡ true)
or_either true b h = inl refl
or_either false b h = inr h

-- what stands between a token and what it touches for sure
nothing_between : (y z : Chunk) (zs : List Chunk) (touching : Bool) (gap after : List ℕ) → IsWord y → IsChunk z zs → IsUtf8 (touched true z.kind z.text after (joined zs) (tokens_of zs))
    → touches_surely touching (joins y.kind z.kind) y.text gap z.text ≡ true → between touching (joins y.kind z.kind) y.text gap (front_of after z zs) ≡ []
nothing_between y z zs touching gap after word it fine h =
    ⊎_elim by_joint (λ k. by_gap gap (and_parts (length gap == 0) (not (joins y.kind z.kind) && ends_before y.text z.text) k)) (or_either (touching && joins y.kind z.kind) ((length gap == 0) && (not (joins y.kind z.kind) && ends_before y.text z.text)) h)
  where
    front : List ℕ
    front = front_of after z zs

    by_joint : (touching && joins y.kind z.kind) ≡ true → between touching (joins y.kind z.kind) y.text gap front ≡ []
    by_joint k = ap (λ b. if b then [] else parting (joins y.kind z.kind) y.text gap front) k

    no_space : (t j s : Bool) → j ≡ false → s ≡ true → (if t && j then [] else space_if (j || not s)) ≡ []
    no_space t j s e k = ap₂ (λ j s. if t && j then [] else space_if (j || not s)) e k ∙ by t
      where
        by : (t : Bool) → (if t && false then [] else space_if (false || not true)) ≡ []
        by true = refl
        by false = refl

    by_gap : (gap : List ℕ) → ((length gap == 0) ≡ true) × ((not (joins y.kind z.kind) && ends_before y.text z.text) ≡ true) → between touching (joins y.kind z.kind) y.text gap front ≡ []
    by_gap [] both =
        let parts = and_parts (not (joins y.kind z.kind)) (ends_before y.text z.text) both.1 in
        no_space touching (joins y.kind z.kind) (ends_before y.text front) (not_true (joins y.kind z.kind) parts.0)
        (ends_longer y z.text (touched true z.kind z.text after (joined zs) (tokens_of zs)) word it.utf8 fine it.some parts.1)
    by_gap (b ∷ gap) both = absurd (omega (arith, eqb-true (length (b ∷ gap)) 0 both.0))

-- what a token touches for sure is text
touched_utf8 : (touching : Bool) (kind : TokenKind) (before gap : List ℕ) (xs : List Chunk) → AreChunks xs → IsUtf8 (touched touching kind before gap (joined xs) (tokens_of xs))
touched_utf8 touching kind before gap [] are = IsUtf8-nil
touched_utf8 touching kind before gap (z ∷ zs) are =
    subst IsUtf8 (sym (touched_is touching kind before gap z zs)) (by (is_blank z.kind) (touches_surely touching (joins kind z.kind) before gap z.text) (touched_utf8 false kind before gap zs are.1))
  where
    by : (b s : Bool) → IsUtf8 (touched false kind before gap (joined zs) (tokens_of zs)) → IsUtf8 (if b then touched false kind before gap (joined zs) (tokens_of zs) else (if s then z.text else []))
    by true s ih = ih
    by false true ih = are.0.utf8
    by false false ih = IsUtf8-nil

-- what is written behind a token begins with what that touches for sure
begins_touched : (y : Chunk) (touching : Bool) (ys : List Chunk) (used : ℕ) (gaps : List (List ℕ)) → IsWord y → AreChunks ys → (inner : Laid false touching y.kind y.text used ys gaps)
    → (more : List ℕ) × (joined inner.new ≡ touched touching y.kind y.text (get_or gaps used []) (joined ys) (tokens_of ys) ++ more)
begins_touched y touching ys used gaps word are inner = told ys touching are (joined inner.new) inner.text_is
  where
    gap : List ℕ
    gap = get_or gaps used []

    told : (ys : List Chunk) (touching : Bool) → AreChunks ys → (all : List ℕ) → all ≡ laid false touching y.kind y.text used (joined ys) (tokens_of ys) gaps
        → (more : List ℕ) × (all ≡ touched touching y.kind y.text gap (joined ys) (tokens_of ys) ++ more)
    told [] touching are all e = (all, refl)
    told (z ∷ zs) touching are all e = go (is_blank z.kind) refl (λ k. told zs false are.1 all k)
      where
        shown : touched touching y.kind y.text gap (joined (z ∷ zs)) (tokens_of (z ∷ zs))
            ≡ (if is_blank z.kind then touched false y.kind y.text gap (joined zs) (tokens_of zs) else (if touches_surely touching (joins y.kind z.kind) y.text gap z.text then z.text else []))
        shown = touched_is touching y.kind y.text gap z zs

        in_words : (t : List ℕ) → touched touching y.kind y.text gap (joined (z ∷ zs)) (tokens_of (z ∷ zs)) ≡ t → (more : List ℕ) × (all ≡ t ++ more)
            → (more : List ℕ) × (all ≡ touched touching y.kind y.text gap (joined (z ∷ zs)) (tokens_of (z ∷ zs)) ++ more)
        in_words t k (more, h) = (more, h ∙ ap (λ u. u ++ more) (sym k))

        go : (b : Bool) → is_blank z.kind ≡ b → (all ≡ laid false false y.kind y.text used (joined zs) (tokens_of zs) gaps → (more : List ℕ) × (all ≡ touched false y.kind y.text gap (joined zs) (tokens_of zs) ++ more))
            → (more : List ℕ) × (all ≡ touched touching y.kind y.text gap (joined (z ∷ zs)) (tokens_of (z ∷ zs)) ++ more)
        go true k ih =
            in_words (touched false y.kind y.text gap (joined zs) (tokens_of zs)) (shown ∙ ap (λ b. if b then touched false y.kind y.text gap (joined zs) (tokens_of zs) else (if touches_surely touching (joins y.kind z.kind) y.text gap z.text then z.text else [])) k)
            (ih (e ∙ blank_text false touching y.kind y.text used z zs gaps k))
        go false k ih = sure (touches_surely touching (joins y.kind z.kind) y.text gap z.text) refl
          where
            plain : touched touching y.kind y.text gap (joined (z ∷ zs)) (tokens_of (z ∷ zs)) ≡ (if touches_surely touching (joins y.kind z.kind) y.text gap z.text then z.text else [])
            plain = shown ∙ ap (λ b. if b then touched false y.kind y.text gap (joined zs) (tokens_of zs) else (if touches_surely touching (joins y.kind z.kind) y.text gap z.text then z.text else [])) k

            sure : (s : Bool) → touches_surely touching (joins y.kind z.kind) y.text gap z.text ≡ s → (more : List ℕ) × (all ≡ touched touching y.kind y.text gap (joined (z ∷ zs)) (tokens_of (z ∷ zs)) ++ more)
            sure false h = in_words [] (plain ∙ ap (λ b. if b then z.text else []) h) (all, refl)
            sure true h =
                let after = get_or gaps (used + 1) [] in
                let rest = laid false true z.kind z.text (used + 1) (joined zs) (tokens_of zs) gaps in
                in_words z.text (plain ∙ ap (λ b. if b then z.text else []) h) (
                  rest,
                  e ∙ word_text false touching y.kind y.text used z zs gaps k
                      ∙ ap (λ p. (p ++ z.text) ++ rest) (nothing_between y z zs touching gap after word are.0 (touched_utf8 true z.kind z.text after zs are.1) h),
                )

-- so does the token with what is written behind it
begins_front : (y : Chunk) (ys : List Chunk) (used : ℕ) (gaps : List (List ℕ)) → IsWord y → AreChunks ys → (inner : Laid false true y.kind y.text used ys gaps) → Begins (front_of (get_or gaps used []) y ys) (y ∷ inner.new)
begins_front y ys used gaps word are inner =
    let gap = get_or gaps used [] in
    let (more, is) = begins_touched y true ys used gaps word are inner in
    let next = touched true y.kind y.text gap (joined ys) (tokens_of ys) in
    record {
      utf8 = IsUtf8-append y.text next word.utf8 (touched_utf8 true y.kind y.text gap ys are);
      some = λ e. word.some (empty_front (chars y.text) (chars next) (sym (chars-append y.text next word.utf8) ∙ e));
      more = more;
      are = ap (λ t. y.text ++ t) is ∙ sym (append_assoc y.text next more);
    }

-- a chunk before others that it keeps its meaning before
chunk_keeps : (x : Chunk) (xs new : List Chunk) → IsChunk x xs → Keeps x new (next_kind (tokens_of xs)) → IsChunk x new
chunk_keeps x xs new it keeps = record {
  utf8 = it.utf8;
  some = it.some;
  reads = keeps.reads;
  role = it.role;
  means = λ part at. pieces_same part part x.kind (next_kind (tokens_of new)) (next_kind (tokens_of xs)) at at x.text keeps.same ∙ it.means part at;
}

-- what is laid out behind a token
pub record LaidBehind (x : Chunk) (touching : Bool) (used : ℕ) (xs : List Chunk) (gaps : List (List ℕ)) (source : Option TokenKind) : Type 0 where
  pub it : Laid false touching x.kind x.text used xs gaps
  pub keeps : Keeps x it.new source

-- only a gap
laid_end : (x : Chunk) (touching : Bool) (used : ℕ) (gaps : List (List ℕ)) (source : Option TokenKind) → IsWord x → Stands x touching [] source → AreGaps gaps → LaidBehind x touching used [] gaps source
laid_end x touching used gaps source word stands fine =
    let gap = get_or gaps used [] in
    let put = ending_put x source gap word (gap_get gaps used fine) (inr (by touching stands)) in
    record {
      it = record {
        new = put.0.new;
        are = put.0.are;
        text_is = put.0.text_is ∙ append-nil (ending false x.text gap);
        means = put.0.means;
        matches = put.0.matches;
        line = put.0.line refl;
      };
      keeps = put.1;
    }
  where
    by : (t : Bool) → Stands x t [] source → spacing_before source ≡ Alone
    by true s = ap spacing_before s.1
    by false s = s

-- a gap behind no token
ending_alone : (before gap : List ℕ) → ending true before gap ≡ gap
ending_alone before [] = refl
ending_alone before (b ∷ gap) = refl

laid_none : (touching : Bool) (kind : TokenKind) (before : List ℕ) (used : ℕ) (gaps : List (List ℕ)) → AreGaps gaps → Laid true touching kind before used [] gaps
laid_none touching kind before used gaps fine =
    let gap = get_or gaps used [] in
    let put = put_alone gap (gap_get gaps used fine) in
    record {
      new = put.new;
      are = put.are;
      text_is = put.text_is ∙ append-nil gap ∙ sym (ending_alone before gap);
      means = put.means;
      matches = put.matches;
      line = put.line refl;
    }

blank_stands : (x y : Chunk) (touching : Bool) (ys : List Chunk) (source : Option TokenKind) → Stands x touching (y ∷ ys) source → is_blank y.kind ≡ true → spacing_before source ≡ Alone
blank_stands x y true ys source stands blank = ap spacing_before stands.1 ∙ (blank_kind y.kind blank).alone
blank_stands x y false ys source stands blank = stands

or_other : (a b : Bool) → (a || b) ≡ true → a ≡ false → b ≡ true
or_other true b h e = absurd (false≢true (sym e))
or_other false b h e = h

pub laid_behind : (x : Chunk) (touching : Bool) (used : ℕ) (xs : List Chunk) (gaps : List (List ℕ)) (source : Option TokenKind) → IsWord x → Stands x touching xs source → AreChunks xs → are_plain (tokens_of xs) ≡ true
    → AreGaps gaps → LaidBehind x touching used xs gaps source
laid_behind x touching used [] gaps source word stands are plain fine = laid_end x touching used gaps source word stands fine
laid_behind x touching used (y ∷ ys) gaps source word stands are plain fine =
    go (is_blank y.kind) refl (λ s. laid_behind x false used ys gaps source word s are.1 both.1 fine)
    (λ other. laid_behind y true (used + 1) ys gaps (next_kind (tokens_of ys)) other (are.0.reads, refl) are.1 both.1 fine)
  where
    both : ((is_blank y.kind || is_whole y.kind) ≡ true) × (are_plain (tokens_of ys) ≡ true)
    both = and_parts (is_blank y.kind || is_whole y.kind) (are_plain (tokens_of ys)) plain

    go : (b : Bool) → is_blank y.kind ≡ b → (spacing_before source ≡ Alone → LaidBehind x false used ys gaps source)
        → (IsWord y → LaidBehind y true (used + 1) ys gaps (next_kind (tokens_of ys))) → LaidBehind x touching used (y ∷ ys) gaps source
    go true e skipped written =
        let inner = skipped (blank_stands x y touching ys source stands e) in
        record { it = pass_blank false touching x.kind x.text used y ys gaps e are.0 inner.it; keeps = inner.keeps }
    go false e skipped written =
        let other = word_is y ys are.0 (or_other (is_blank y.kind) (is_whole y.kind) both.0 e) in
        let inner = written other in
        let put = between_put x y touching ys inner.it.new source (get_or gaps used []) (front_of (get_or gaps (used + 1) []) y ys) word other (begins_front y ys (used + 1) gaps other are.1 inner.it) stands (gap_get gaps used fine) (chunk_keeps y ys inner.it.new are.0 inner.keeps, inner.it.are) in
        record { it = put_word false touching x.kind x.text used y ys gaps e other.whole inner.it put.0; keeps = put.1 }

-- and from the first token on
pub laid_all : (touching : Bool) (kind : TokenKind) (before : List ℕ) (used : ℕ) (xs : List Chunk) (gaps : List (List ℕ)) → AreChunks xs → are_plain (tokens_of xs) ≡ true → AreGaps gaps → Laid true touching kind before used xs gaps
laid_all touching kind before used [] gaps are plain fine = laid_none touching kind before used gaps fine
laid_all touching kind before used (y ∷ ys) gaps are plain fine = go (is_blank y.kind) refl (laid_all false kind before used ys gaps are.1 both.1 fine)
  where
    both : ((is_blank y.kind || is_whole y.kind) ≡ true) × (are_plain (tokens_of ys) ≡ true)
    both = and_parts (is_blank y.kind || is_whole y.kind) (are_plain (tokens_of ys)) plain

    go : (b : Bool) → is_blank y.kind ≡ b → Laid true false kind before used ys gaps → Laid true touching kind before used (y ∷ ys) gaps
    go true e skipped = pass_blank true touching kind before used y ys gaps e are.0 skipped
    go false e skipped =
        let other = word_is y ys are.0 (or_other (is_blank y.kind) (is_whole y.kind) both.0 e) in
        let inner = laid_behind y true (used + 1) ys gaps (next_kind (tokens_of ys)) other (are.0.reads, refl) are.1 both.1 fine in
        let gap = get_or gaps used [] in
        put_word true touching kind before used y ys gaps e other.whole inner.it
        (put_gap gap (y ∷ inner.it.new) (gap_chunks gap (gap_get gaps used fine)) (chunk_keeps y ys inner.it.new are.0 inner.keeps, inner.it.are) (word_front y inner.it.new other))
