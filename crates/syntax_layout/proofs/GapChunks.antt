-- The chunks of a gap, before others.
use Rattle.std.proofs.Common.{◌≡◌, ◌≢◌, ℕ, zero, suc, ◌<◌, ◌^◌, Bool, true, false, List, [], ◌∷◌, ◌++◌, length, get_or, None, Some, refl, sym, ap, ◌∙◌, ⊎_elim, subst, arith, append-nil, if◌then◌else◌}
use Rattle.std.proofs.lemmas.Bool.{false≢true, and_parts}
use Rattle.std.proofs.lemmas.Str.{IsUtf8-nil, chars-append, chars-nil}
use Rattle.std.specs.Str.{chars}
use Rattle.syntax_edit.proofs.KindFacts.{blank_read, last_is, some_part}
use Rattle.syntax_edit.proofs.Seams.{empty_front}
use Rattle.syntax_edit.proofs.Sources.{joined-append, source, utf8_joined}
use Rattle.syntax_edit.proofs.Tokens.{kept_more}
use Rattle.syntax_edit.specs.Kept.{ends_in_line, is_line, is_sound}
use Rattle.syntax_edit.specs.Whole.{is_whole}
use Rattle.syntax_lex.proofs.Twins.{behind_none}
use Rattle.syntax_lex.specs.Stops.{is_ended}
use Rattle.syntax_layout.proofs.Chunks.{blank_match}
use Rattle.syntax_layout.proofs.Words.{IsWord}
use Rattle.syntax_layout.specs.Gap.{AreGaps, IsGap, are_blank, is_blank}
use Rattle.syntax_layout.specs.Layout.{AreFit, IsFit}
use Rattle.syntax_lex.specs.Class.{is_whitespace}
use Rattle.syntax_lex.specs.Front.{first, behind}
use Rattle.syntax_lex.specs.Reading.{reading}
use Rattle.syntax_lex.specs.declared.token.TokenKind.{TokenKind}
use Rattle.syntax_lex.specs.declared.token.TokenKind.TheVariants as kinds
use Rattle.syntax_parse.specs.Parsed.{next_kind}
use Rattle.syntax_parse.specs.Pieces.{pieces_as, spacing_before}
use Rattle.syntax_parse.specs.Role.{role_in}
use Rattle.syntax_parse.specs.declared.bracket.Bracket.{Bracket}
use Rattle.syntax_parse.specs.declared.role.Role.TheVariants.{Nothing}
use Rattle.syntax_unparse.proofs.Chunks.{AreChunks, Chunk, IsChunk, joined, match, means_of, tokens_of}
use Rattle.syntax_unparse.proofs.Fronts.{text}
use Rattle.syntax_unparse.specs.Settled.{sorts}
use Rattle.tt_base.specs.declared.punct.Spacing.TheVariants.{Alone}

-- what is known of a blank token
pub record IsBlankKind (kind : TokenKind) : Type 0 where
  pub sound : is_sound kind ≡ true
  pub role : (bytes : List ℕ) → role_in kind bytes ≡ Nothing
  pub alone : spacing_before (Some kind) ≡ Alone
  pub unended : is_ended kind ≡ false

pub blank_kind : (kind : TokenKind) → is_blank kind ≡ true → IsBlankKind kind
blank_kind (kinds.LineComment None) h = record { sound = refl; role = λ bytes. refl; alone = refl; unended = refl }
blank_kind (kinds.LineComment (Some style)) h = absurd (false≢true h)
blank_kind (kinds.BlockComment None true) h = record { sound = refl; role = λ bytes. refl; alone = refl; unended = refl }
blank_kind (kinds.BlockComment None false) h = absurd (false≢true h)
blank_kind (kinds.BlockComment (Some style) terminated) h = absurd (false≢true h)
blank_kind kinds.Whitespace h = record { sound = refl; role = λ bytes. refl; alone = refl; unended = refl }
blank_kind kind h = absurd (false≢true h)

-- all of the chunks are blank
abbrev pub AllBlank : List Chunk → Type 0
AllBlank [] = Unit {0}
AllBlank (x ∷ xs) = (is_blank x.kind ≡ true) × AllBlank xs

pub blanks : (xs : List Chunk) → are_blank (tokens_of xs) ≡ true → AllBlank xs
blanks [] h = tt
blanks (x ∷ xs) h = let both = and_parts (is_blank x.kind) (are_blank (tokens_of xs)) h in (both.0, blanks xs both.1)

-- a blank chunk means nothing
pub blank_role : (x : Chunk) (xs : List Chunk) → IsChunk x xs → is_blank x.kind ≡ true → x.role ≡ Nothing
blank_role x xs it h = sym it.role ∙ (blank_kind x.kind h).role x.text

pub blank_means : (x : Chunk) (xs : List Chunk) → IsChunk x xs → is_blank x.kind ≡ true → x.means ≡ []
blank_means x xs it h =
    sym (it.means some_part 0) ∙ ap (λ r. sorts (pieces_as r some_part x.kind (next_kind (tokens_of xs)) 0 x.text)) ((blank_kind x.kind h).role x.text)

pub text_append : (xs ys : List Chunk) → AreChunks xs → text (xs ++ ys) ≡ text xs ++ text ys
text_append xs ys are = ap chars (joined-append xs ys) ∙ chars-append (joined xs) (joined ys) (utf8_joined xs are)

some_text : (x : Chunk) (xs : List Chunk) → AreChunks (x ∷ xs) → text (x ∷ xs) ≢ []
some_text x xs are e = are.0.some (empty_front (chars x.text) (text xs) (sym (chars-append x.text (joined xs) are.0.utf8) ∙ e))

-- what is left behind characters that pass a test, where all in front do
behind_all : (p : ℕ → Bool) (xs r : List ℕ) → behind p xs ≡ [] → behind p (xs ++ r) ≡ behind p r
behind_all p [] r e = refl
behind_all p (x ∷ xs) r e = go (p x) refl (λ h. behind_all p xs r h)
  where
    go : (b : Bool) → p x ≡ b → (behind p xs ≡ [] → behind p (xs ++ r) ≡ behind p r) → behind p (x ∷ (xs ++ r)) ≡ behind p r
    go true k ih = rw k (ih (subst (λ b. (if b then behind p xs else x ∷ xs) ≡ []) k e))
    go false k ih = absurd (by (subst (λ b. (if b then behind p xs else x ∷ xs) ≡ []) k e))
      where
        by : ◌≡◌ {A = List ℕ} (x ∷ xs) [] → ⊥
        by h = cc

-- a blank token that is all of a text, and no comment to the end of a line, is the same before what begins with no white space
pub blank_before : (letters : List ℕ) (kind : TokenKind) (r : List ℕ) → letters ≢ [] → reading letters ≡ (kind, []) → is_blank kind ≡ true → is_line kind ≡ false → is_whitespace (first r) ≡ false
    → reading (letters ++ r) ≡ (kind, r)
blank_before [] kind r some read is line apart = absurd (some refl)
blank_before (c ∷ cs) kind r some read is line apart = go (is_whitespace c) refl
  where
    known : IsBlankKind kind
    known = blank_kind kind is

    go : (b : Bool) → is_whitespace c ≡ b → reading (c ∷ (cs ++ r)) ≡ (kind, r)
    go true e =
        let all = sym (blank_read c cs e) ∙ read in
        blank_read c (cs ++ r) e ∙ ap (λ t. (kinds.Whitespace, t)) (behind_all is_whitespace cs r (ap (λ p. p.1) all) ∙ behind_none is_whitespace r apart)
        ∙ ap (λ p. (p.0, r)) all
    go false e = ⊎_elim (λ fixed. fixed.0 r) (λ ended. absurd (false≢true (sym known.unended ∙ ended))) (last_is c cs kind e read known.sound line)

-- the chunks of a gap before chunks that begin with no white space
pub gap_are : (xs rest : List Chunk) → AreChunks xs → AllBlank xs → ends_in_line (tokens_of xs) ≡ false → AreChunks rest → is_whitespace (first (text rest)) ≡ false → AreChunks (xs ++ rest)
gap_are [] rest are blank line fine apart = fine
gap_are (x ∷ []) rest are blank line fine apart = (
  record {
    utf8 = are.0.utf8;
    some = are.0.some;
    reads =
        blank_before (chars x.text) x.kind (text rest) are.0.some
        (ap reading (sym (ap (λ t. chars x.text ++ t) chars-nil ∙ append-nil (chars x.text))) ∙ are.0.reads ∙ ap (λ t. (x.kind, t)) chars-nil) blank.0 line apart;
    role = are.0.role;
    means = λ part at. ap (λ r. sorts (pieces_as r part x.kind (next_kind (tokens_of rest)) at x.text)) ((blank_kind x.kind blank.0).role x.text) ∙ sym (blank_means x [] are.0 blank.0);
  },
  fine,
)
gap_are (x ∷ y ∷ ys) rest are blank line fine apart =
    let more = text_append (y ∷ ys) rest are.1 in (
      record {
        utf8 = are.0.utf8;
        some = are.0.some;
        reads =
            ap (λ t. reading (chars x.text ++ t)) more
            ∙ kept_more (chars x.text) (text (y ∷ ys)) (text rest) x.kind are.0.some (some_text y ys are.1) are.0.reads (blank_kind x.kind blank.0).sound
            ∙ ap (λ t. (x.kind, t)) (sym more);
        role = are.0.role;
        means = are.0.means;
      },
      gap_are (y ∷ ys) rest are.1 blank.1 line fine apart,
    )

pub gap_means : (xs rest : List Chunk) → AreChunks xs → AllBlank xs → means_of (xs ++ rest) ≡ means_of rest
gap_means [] rest are blank = refl
gap_means (x ∷ xs) rest are blank = ap (λ t. t ++ means_of (xs ++ rest)) (blank_means x xs are.0 blank.0) ∙ gap_means xs rest are.1 blank.1

pub gap_match : (before : List Bracket) (xs rest : List Chunk) → AreChunks xs → AllBlank xs → match before (xs ++ rest) ≡ match before rest
gap_match before [] rest are blank = refl
gap_match before (x ∷ xs) rest are blank = blank_match before x (xs ++ rest) (blank_role x xs are.0 blank.0) ∙ gap_match before xs rest are.1 blank.1

-- the empty text is a gap
pub no_gap : IsGap []
no_gap = record { utf8 = IsUtf8-nil; tokens = []; read = chars-nil; blank = refl; line = refl }

pub gap_get : (gaps : List (List ℕ)) (n : ℕ) → AreGaps gaps → IsGap (get_or gaps n [])
gap_get [] n are = no_gap
gap_get (gap ∷ gaps) zero are = are.0
gap_get (gap ∷ gaps) (suc n) are = gap_get gaps n are.2

-- a gap as chunks
pub record GapChunks (gap : List ℕ) : Type 0 where
  pub chunks : List Chunk
  pub are : AreChunks chunks
  pub blank : AllBlank chunks
  pub line : ends_in_line (tokens_of chunks) ≡ false
  pub text_is : joined chunks ≡ gap

pub gap_chunks : (gap : List ℕ) → IsGap gap → GapChunks gap
gap_chunks gap it =
    let all = source gap it.tokens it.utf8 it.read in
    record {
      chunks = all.chunks;
      are = all.are;
      blank = blanks all.chunks (ap are_blank all.tokens_are ∙ it.blank);
      line = ap ends_in_line all.tokens_are ∙ it.line;
      text_is = all.text_is;
    }

-- a word begins with no white space
pub word_front : (x : Chunk) (xs : List Chunk) → IsWord x → is_whitespace (first (text (x ∷ xs))) ≡ false
word_front x xs it = ap (λ t. is_whitespace (first t)) (chars-append x.text (joined xs) it.utf8) ∙ go (chars x.text) it.some it.alone
  where
    white : is_whole kinds.Whitespace ≡ true → ⊥
    white h = false≢true h

    go : (letters : List ℕ) → letters ≢ [] → reading letters ≡ (x.kind, []) → is_whitespace (first (letters ++ text xs)) ≡ false
    go [] some read = absurd (some refl)
    go (c ∷ cs) some read = by (is_whitespace c) refl
      where
        by : (b : Bool) → is_whitespace c ≡ b → is_whitespace c ≡ false
        by false e = e
        by true e = absurd (white (ap (λ p. is_whole p.0) (sym (blank_read c cs e) ∙ read) ∙ it.whole))

-- and none is too long
pub gap_short : (gaps : List (List ℕ)) (n : ℕ) → AreGaps gaps → length (get_or gaps n []) < 2 ^ 31
gap_short [] n are = omega arith
gap_short (gap ∷ gaps) zero are = are.1
gap_short (gap ∷ gaps) (suc n) are = gap_short gaps n are.2

-- gaps that fit are gaps
pub fit_gaps : (asked used : List (List ℕ)) → AreFit asked used → AreGaps used
fit_gaps [] [] fit = tt
fit_gaps [] (u ∷ used) fit = absurd fit
fit_gaps (a ∷ asked) [] fit = absurd fit
fit_gaps (a ∷ asked) (u ∷ used) fit = (fit.0.gap, fit.0.short, fit_gaps asked used fit.1)

pub fit_more : (asked used : List (List ℕ)) (a u : List ℕ) → AreFit asked used → IsFit a u → AreFit (asked ++ a ∷ []) (used ++ u ∷ [])
fit_more [] [] a u fit it = (it, tt)
fit_more [] (v ∷ used) a u fit it = absurd fit
fit_more (b ∷ asked) [] a u fit it = absurd fit
fit_more (b ∷ asked) (v ∷ used) a u fit it = (fit.0, fit_more asked used a u fit.1 it)

pub gaps_more : (gaps : List (List ℕ)) (gap : List ℕ) → AreGaps gaps → IsGap gap → length gap < 2 ^ 31 → AreGaps (gaps ++ gap ∷ [])
gaps_more [] gap are it short = (it, short, tt)
gaps_more (g ∷ gaps) gap are it short = (are.0, are.1, gaps_more gaps gap are.2 it short)
