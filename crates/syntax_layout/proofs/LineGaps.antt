-- Line breaks and spaces are a gap.
use Rattle.std.proofs.Common.{◌≡◌, ◌<◌, ◌∙◌, ◌-◌, ◌&&◌, ◌||◌, ◌==◌, ℕ, zero, suc, Bool, true, List, [], ◌∷◌, ◌++◌, drop, refl, sym, ap, arith, subst, take, append-nil}
use Rattle.std.proofs.lemmas.Str.{IsUtf8-from_ascii, chars-IsAscii, chars-nil}
use Rattle.std.proofs.lemmas.Str.Ascii.{IsAscii-cons, IsAscii-nil}
use Rattle.std.specs.List.{slice_range}
use Rattle.std.specs.Str.{IsAscii, chars}
use Rattle.syntax_edit.proofs.KindFacts.{blank_read}
use Rattle.syntax_layout.proofs.Chunks.{white}
use Rattle.syntax_layout.proofs.GapChunks.{no_gap}
use Rattle.syntax_layout.specs.Gap.{IsGap}
use Rattle.syntax_lex.specs.Class.{is_whitespace}
use Rattle.syntax_lex.specs.Front.{behind}
use Rattle.syntax_lex.specs.Reading.{AreTokensOf, reading}
use Rattle.syntax_lex.specs.declared.token.TokenKind.TheVariants as kinds
use Rattle.syntax_unparse.proofs.Chunks.{IsChunk, tokens_are, tokens_of}

-- each byte is a line break or a space
abbrev pub all_white : List ℕ → Bool
all_white [] = true
all_white (b ∷ bs) = ((b == 10) || (b == 32)) && all_white bs

white_low : (b : ℕ) → ((b == 10) || (b == 32)) ≡ true → (b < 128) × (is_whitespace b ≡ true)
white_low b h = grind arith

first_white : (b : ℕ) (bs : List ℕ) → all_white (b ∷ bs) ≡ true → ((b == 10) || (b == 32)) ≡ true
first_white b bs h = grind arith

others_white : (b : ℕ) (bs : List ℕ) → all_white (b ∷ bs) ≡ true → all_white bs ≡ true
others_white b bs h = grind arith

both_white : (a b : Bool) → a ≡ true → b ≡ true → (a && b) ≡ true
both_white a b h k = grind arith

white_ascii : (bs : List ℕ) → all_white bs ≡ true → IsAscii bs
white_ascii [] h = IsAscii-nil
white_ascii (b ∷ bs) h = IsAscii-cons b bs (white_low b (first_white b bs h)).0 (white_ascii bs (others_white b bs h))

white_passed : (bs : List ℕ) → all_white bs ≡ true → behind is_whitespace bs ≡ []
white_passed [] h = refl
white_passed (b ∷ bs) h = rw ((white_low b (first_white b bs h)).1) (white_passed bs (others_white b bs h))

-- so is what is taken of them, and what is left
white_taken : (n : ℕ) (bs : List ℕ) → all_white bs ≡ true → all_white (take n bs) ≡ true
white_taken zero bs h = refl
white_taken (suc n) [] h = refl
white_taken (suc n) (b ∷ bs) h = both_white ((b == 10) || (b == 32)) (all_white (take n bs)) (first_white b bs h) (white_taken n bs (others_white b bs h))

white_left : (n : ℕ) (bs : List ℕ) → all_white bs ≡ true → all_white (drop n bs) ≡ true
white_left zero bs h = h
white_left (suc n) [] h = refl
white_left (suc n) (b ∷ bs) h = white_left n bs (others_white b bs h)

white_some : (b : ℕ) (bs : List ℕ) → chars (b ∷ bs) ≡ b ∷ bs → chars (b ∷ bs) ≡ [] → ⊥
white_some b bs is none = cc

white_read : (b : ℕ) (bs : List ℕ) → all_white (b ∷ bs) ≡ true → reading (chars (b ∷ bs) ++ chars []) ≡ (kinds.Whitespace, chars [])
white_read b bs h =
    let letters : chars (b ∷ bs) ++ chars [] ≡ b ∷ bs =
    ap (λ t. t ++ chars []) (chars-IsAscii (b ∷ bs) (white_ascii (b ∷ bs) h)) ∙ ap (λ t. b ∷ (bs ++ t)) chars-nil ∙ ap (λ t. b ∷ t) (append-nil bs) in
    ap reading letters ∙ blank_read b bs (white_low b (first_white b bs h)).1 ∙ ap (λ t. (kinds.Whitespace, t)) (white_passed bs (others_white b bs h) ∙ sym chars-nil)

white_is : (b : ℕ) (bs : List ℕ) → all_white (b ∷ bs) ≡ true → IsChunk (white (b ∷ bs)) []
white_is b bs h = record {
  utf8 = IsUtf8-from_ascii (b ∷ bs) (white_ascii (b ∷ bs) h);
  some = λ e. white_some b bs (chars-IsAscii (b ∷ bs) (white_ascii (b ∷ bs) h)) e;
  reads = white_read b bs h;
  role = refl;
  means = λ part at. refl;
}

white_gap : (bs : List ℕ) → all_white bs ≡ true → IsGap bs
white_gap [] h = no_gap
white_gap (b ∷ bs) h = record {
  utf8 = IsUtf8-from_ascii (b ∷ bs) (white_ascii (b ∷ bs) h);
  tokens = tokens_of (white (b ∷ bs) ∷ []);
  read = subst (λ t. AreTokensOf (tokens_of (white (b ∷ bs) ∷ [])) (chars t)) (append-nil (b ∷ bs)) (tokens_are (white (b ∷ bs) ∷ []) (white_is b bs h, tt));
  blank = refl;
  line = refl;
}

-- so is each part of such a text
pub part_gap : (start stop : ℕ) (bs : List ℕ) → all_white bs ≡ true → IsGap (slice_range bs start stop)
part_gap start stop bs h = white_gap (take (stop - start) (drop start bs)) (white_taken (stop - start) (drop start bs) (white_left start bs h))
