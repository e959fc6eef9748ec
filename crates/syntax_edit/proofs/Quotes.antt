-- A lifetime begins with a character of one byte.
use Rattle.std.proofs.Common.{◌≡◌, ℕ, ◌<◌, ◌≤◌, Bool, true, false, List, [], ◌∷◌, length, cond, refl, sym, ap, ◌∙◌, ⊎_elim, arith}
use Rattle.std.proofs.lemmas.Bool.{cases_lt, false≢true, le-leb, leb-true}
use Rattle.std.proofs.lemmas.Str.{IsCharBoundary-after_ascii}
use Rattle.std.specs.Prelude.{slice_index}
use Rattle.std.specs.Str.{chars, IsCharBoundary, IsUtf8}
use Rattle.syntax_lex.specs.Class.{is_emoji_mark, is_id_continue, is_id_start, is_odd_rest, is_whitespace}
use Rattle.syntax_lex.specs.Front.{behind, first, second}
use Rattle.syntax_lex.specs.Opening.{symbol}
use Rattle.syntax_lex.specs.Reading.{first_token_of, reading, reading_of}
use Rattle.syntax_lex.specs.Word.{begins_literal, word, word_before}
use Rattle.syntax_lex.specs.declared.opening.Family.TheVariants as opens
use Rattle.syntax_lex.specs.declared.token.TokenKind.{TokenKind}
use Rattle.syntax_lex.specs.declared.token.TokenKind.TheVariants as kinds
use Rattle.syntax_lex.proofs.ByteFacts.{first_wide}
use Rattle.syntax_lex.proofs.OpeningFacts.{opening-wide}
use Rattle.syntax_parse.proofs.LiteralBytes.{wide_is}
use Rattle.syntax_unparse.specs.Writable.{is_lifetime}

-- a character beyond ASCII is no sign
symbol_wide : (c : ℕ) → 128 ≤ c → symbol c ≡ kinds.Unknown
unfolding symbol
symbol_wide c wide =
    rw (wide_is c 59 wide (omega arith), wide_is c 44 wide (omega arith), wide_is c 46 wide (omega arith), wide_is c 40 wide (omega arith), wide_is c 41 wide (omega arith), wide_is c 123 wide (omega arith), wide_is c 125 wide (omega arith), wide_is c 91 wide (omega arith), wide_is c 93 wide (omega arith), wide_is c 64 wide (omega arith), wide_is c 35 wide (omega arith), wide_is c 126 wide (omega arith), wide_is c 63 wide (omega arith), wide_is c 58 wide (omega arith), wide_is c 36 wide (omega arith), wide_is c 61 wide (omega arith), wide_is c 33 wide (omega arith), wide_is c 60 wide (omega arith), wide_is c 62 wide (omega arith), wide_is c 45 wide (omega arith), wide_is c 38 wide (omega arith), wide_is c 124 wide (omega arith), wide_is c 43 wide (omega arith), wide_is c 42 wide (omega arith), wide_is c 47 wide (omega arith), wide_is c 94 wide (omega arith), wide_is c 37 wide (omega arith)) refl

word_none : (cs : List ℕ) → is_lifetime (word_before cs).0 ≡ false
word_none cs = by (begins_literal (first cs)) (is_emoji_mark (first cs))
  where
    by : (a b : Bool) → is_lifetime (cond {A = TokenKind × List ℕ} a (kinds.UnknownPrefix, cs) (cond b (kinds.InvalidIdent, behind is_odd_rest cs) (kinds.Ident, cs))).0 ≡ false
    by true b = refl
    by false true = refl
    by false false = refl

wide_none : (c : ℕ) (cs : List ℕ) → 128 ≤ c → is_lifetime (reading (c ∷ cs)).0 ≡ false
unfolding reading reading_of word
wide_none c cs wide = ap (λ f. is_lifetime (reading_of f (c ∷ cs) cs).0) (opening-wide c (first cs) (second cs) wide) ∙ by (is_whitespace c) (is_id_start c) (is_emoji_mark c)
  where
    by : (a b d : Bool) → is_lifetime (reading_of (cond a opens.Whitespace (cond b opens.Word (cond d opens.OddWord opens.Symbol))) (c ∷ cs) cs).0 ≡ false
    by true b d = refl
    by false true d = word_none (behind is_id_continue cs)
    by false false true = refl
    by false false false = ap is_lifetime (symbol_wide c wide)

-- The second byte of a lifetime begins a character.
pub quote_boundary : (bs : List ℕ) → IsUtf8 bs → 0 < length bs → is_lifetime (first_token_of (chars bs)).kind ≡ true → IsCharBoundary bs 1
unfolding first_token_of
quote_boundary bs utf8 some life =
    ⊎_elim
    (λ low. IsCharBoundary-after_ascii bs 0 utf8 some low)
    (λ high. absurd (none (chars bs) (leb-true 128 (first (chars bs)) (sym (first_wide bs utf8 some) ∙ le-leb 128 (slice_index bs 0) high)) life))
    (cases_lt (slice_index bs 0) 128)
  where
    none : (cs : List ℕ) → 128 ≤ first cs → is_lifetime (first_token_of cs).kind ≡ true → ⊥
    none [] wide is = omega (arith, wide)
    none (c ∷ cs) wide is = false≢true (sym (wide_none c cs wide) ∙ is)
