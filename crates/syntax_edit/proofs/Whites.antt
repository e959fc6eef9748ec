-- Tokens that are white space, by their first and last characters.
use Rattle.std.proofs.Common.{◌≡◌, ◌≢◌, inl, inr, ℕ, Bool, true, false, not, List, [], ◌∷◌, ◌++◌, length, length-append, refl, sym, ap, ◌∙◌, subst, arith}
use Rattle.std.proofs.lemmas.Bool.{false≢true}
use Rattle.syntax_edit.proofs.KindFacts.{blank_read, line_left}
use Rattle.syntax_edit.proofs.ToldKinds.{apostrophe_kind, word_kind}
use Rattle.syntax_edit.proofs.Tokens.{alone}
use Rattle.syntax_edit.specs.Kept.{is_line, is_parting, is_sound}
use Rattle.syntax_lex.proofs.ByteFacts.{behind_head}
use Rattle.syntax_lex.proofs.KeepFacts.{not_true, plain_null, plain_parting}
use Rattle.syntax_lex.proofs.ReadKeeps.{sound_known, sound_shut}
use Rattle.syntax_lex.proofs.Tables.{Known, known, opening_facts, symbol_passes}
use Rattle.syntax_lex.proofs.TwinReads.{Apart, Suits, reading_twins}
use Rattle.syntax_lex.proofs.Twins.{short, twins_le, twins_of}
use Rattle.syntax_lex.specs.Class.{is_whitespace}
use Rattle.syntax_lex.specs.Front.{first, second}
use Rattle.syntax_lex.specs.Opening.{opening, symbol}
use Rattle.syntax_lex.specs.Quoted.{literal}
use Rattle.syntax_lex.specs.Reading.{reading, reading_of}
use Rattle.syntax_lex.specs.declared.opening.Family.TheVariants as opens
use Rattle.syntax_lex.specs.declared.opening.Family.{Family}
use Rattle.syntax_lex.specs.declared.token.TokenKind.TheVariants as kinds
use Rattle.syntax_lex.specs.declared.token.TokenKind.{TokenKind}

-- whether a token is white space
abbrev is_white : TokenKind → Bool
is_white kinds.Whitespace = true
is_white _ = false

white_is : (kind : TokenKind) → is_white kind ≡ true → kind ≡ kinds.Whitespace
white_is kinds.Whitespace h = refl
white_is kind h = absurd (false≢true h)

-- white space begins with such a character
pub white_first : (c : ℕ) (cs : List ℕ) → (reading (c ∷ cs)).0 ≡ kinds.Whitespace → is_whitespace c ≡ true
unfolding reading reading_of literal
white_first c cs = by (opening c (first cs) (second cs)) (opening_facts c (first cs) (second cs))
  where
    by : (family : Family) → Known family c (first cs) → (reading_of family (c ∷ cs) cs).0 ≡ kinds.Whitespace → is_whitespace c ≡ true
    by opens.Whitespace (known is) h = is
    by opens.Symbol k h = absurd (false≢true (sym (not_true (is_white (symbol c)) (symbol_passes (λ n kind. not (is_white kind)) refl c refl)) ∙ ap is_white h))
    by opens.Word k h = absurd (false≢true (sym (word_kind (λ t. is_white t ≡ false) refl refl refl cs) ∙ ap is_white h))
    by opens.Apostrophe k h = absurd (false≢true (sym (apostrophe_kind (λ t. is_white t ≡ false) refl refl (λ digit. refl) (λ closed start. refl) (c ∷ cs) cs) ∙ ap is_white h))
    by family k h = absurd (false≢true (ap is_white h))

-- no other token of two characters or more ends with such a character
apart_other : (r s left : List ℕ) (kind : TokenKind) → is_line kind ≡ false → is_white kind ≡ false → Apart r s left kind
apart_other r s left (kinds.LineComment doc) line white = absurd (false≢true (sym line))
apart_other r s left kinds.Whitespace line white = absurd (false≢true (sym white))
apart_other r s left kind line white = tt

never_other : (d : ℕ) (ds : List ℕ) (c : ℕ) (kind : TokenKind) → reading (d ∷ (ds ++ c ∷ [])) ≡ (kind, []) → is_sound kind ≡ true → is_line kind ≡ false → is_white kind ≡ false → is_parting c ≡ true → ⊥
never_other d ds c kind read sound line white parts =
    let suits : Suits (c ∷ []) [] (kind, []) = record {
      fits = record { stays = short (plain_parting c parts) plain_null; shut = sound_shut kind sound; known = inl (sound_known kind sound) };
      apart = apart_other (c ∷ []) [] [] kind line white;
      pointless = λ is. inr (plain_parting c parts);
    } in
    let it = reading_twins d (twins_of ds (c ∷ []) []) (subst (Suits (c ∷ []) []) (sym read) suits) in
    omega (arith, twins_le it.left, ap (λ p. length p.1) read)

-- so a token that is alone and ends with white space is white space
pub white_last : (cs : List ℕ) (c : ℕ) (kind : TokenKind) → reading (cs ++ c ∷ []) ≡ (kind, []) → is_sound kind ≡ true → is_line kind ≡ false → is_whitespace c ≡ true → is_parting c ≡ true → kind ≡ kinds.Whitespace
white_last [] c kind read sound line white parts = ap (λ p. p.0) (sym read ∙ blank_read c [] white)
white_last (d ∷ ds) c kind read sound line white parts = by (is_white kind) refl
  where
    by : (b : Bool) → is_white kind ≡ b → kind ≡ kinds.Whitespace
    by true e = white_is kind e
    by false e = absurd (never_other d ds c kind read sound line e parts)

-- and no token that ends with white space is before white space, except a comment to the end of a line before a line feed
pub white_between : (cs : List ℕ) (c : ℕ) (kind : TokenKind) (f : ℕ) (fs : List ℕ) → reading ((cs ++ c ∷ []) ++ f ∷ fs) ≡ (kind, f ∷ fs) → is_sound kind ≡ true → is_whitespace c ≡ true → is_parting c ≡ true
    → is_whitespace f ≡ true → f ≢ 10 → ⊥
white_between cs c kind f fs read sound white parts next feed = by (is_line kind) (cs ++ c ∷ []) refl refl read
  where
    by : (line : Bool) (word : List ℕ) → is_line kind ≡ line → word ≡ cs ++ c ∷ [] → reading (word ++ f ∷ fs) ≡ (kind, f ∷ fs) → ⊥
    by line [] e is h = omega (arith, ap length is, length-append cs (c ∷ []))
    by true (d ∷ ds) e is h = feed (line_left d (ds ++ f ∷ fs) kind f fs h e)
    by false (d ∷ ds) e is h =
        let kind_is = white_last cs c kind (ap reading (sym is) ∙ alone (d ∷ ds) (f ∷ fs) kind (λ n. absurd (omega (arith, ap length n))) h sound e) sound e white parts in
        let first_is = white_first d (ds ++ f ∷ fs) (ap (λ p. p.0) h ∙ kind_is) in
        false≢true (sym (behind_head is_whitespace (ds ++ f ∷ fs) f fs (ap (λ p. p.1) (sym (blank_read d (ds ++ f ∷ fs) first_is) ∙ h))) ∙ next)
