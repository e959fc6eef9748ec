-- Signs and white space, whatever follows them.
use Rattle.std.proofs.Common.{◌≡◌, ℕ, Bool, true, false, ◌==◌, ◌||◌, ◌&&◌, not, List, [], ◌∷◌, nat_le, refl, ap, if◌then◌else◌}
use Rattle.std.proofs.lemmas.Bool.{and_parts, ltb-true, or_parts}
use Rattle.std.specs.Char.{is_ascii_alphabetic}
use Rattle.std.specs.Prelude.{nat_lt}
use Rattle.ucd_emoji.specs.Binary.{is_emoji}
use Rattle.syntax_lex.specs.Class.{is_decimal, is_emoji_mark, is_id_start, is_whitespace}
use Rattle.syntax_lex.specs.Front.{first, second}
use Rattle.syntax_lex.specs.Opening.{begins_raw, opening, symbol}
use Rattle.syntax_lex.specs.Reading.{reading, reading_of}
use Rattle.syntax_lex.specs.declared.opening.Family.TheVariants as opens
use Rattle.syntax_lex.specs.declared.token.TokenKind.TheVariants as kinds
use Rattle.syntax_lex.proofs.KeepFacts.{no_start, not_true, one_of}
use Rattle.syntax_lex.proofs.Twins.{behind_none}
use Rattle.syntax_lex.specs.Stops.{is_glued, is_sign}

-- the characters, except slashes and hashes, that begin a token of several characters
begins_more : ℕ → Bool
begins_more c =
    is_ascii_alphabetic c || ((c == 95) || (is_whitespace c || ((c == 114) || ((c == 98) || ((c == 99) || (is_decimal c || ((c == 39) || ((c == 34) || nat_le 0x80 c))))))))

-- no ASCII sign does
is_lone : ℕ → Bool
is_lone c = nat_lt c 128 && not (begins_more c)

sign_lone : (c : ℕ) → is_sign c ≡ true → is_lone c ≡ true
unfolding is_lone begins_more
sign_lone = one_of is_lone 59 (44 ∷ 46 ∷ 40 ∷ 41 ∷ 123 ∷ 125 ∷ 91 ∷ 93 ∷ 64 ∷ 35 ∷ 126 ∷ 63 ∷ 58 ∷ 36 ∷ 61 ∷ 33 ∷ 60 ∷ 62 ∷ 45 ∷ 38 ∷ 124 ∷ 43 ∷ 42 ∷ 47 ∷ 94 ∷ 37 ∷ []) refl

lone_opening : (c d e : ℕ) → is_lone c ≡ true → is_glued c d ≡ false → opening c d e ≡ opens.Symbol
unfolding opening is_lone begins_more
lone_opening c d e lone apart =
    let both = and_parts (nat_lt c 128) (not (begins_more c)) lone in
    let letter = or_parts (is_ascii_alphabetic c) _ (not_true (begins_more c) both.1) in
    let under = or_parts (c == 95) _ letter.1 in
    let space = or_parts (is_whitespace c) _ under.1 in
    let r = or_parts (c == 114) _ space.1 in
    let b = or_parts (c == 98) _ r.1 in
    let k = or_parts (c == 99) _ b.1 in
    let decimal = or_parts (is_decimal c) _ k.1 in
    let apostrophe = or_parts (c == 39) _ decimal.1 in
    let quote = or_parts (c == 34) _ apostrophe.1 in
    let start : is_id_start c ≡ false = no_start c (ltb-true c 128 both.0) letter.0 under.0 in
    let emoji : is_emoji_mark c ≡ false = ap (λ n. n && is_emoji c) quote.1 in
    let parts = or_parts ((c == 47) && ((d == 47) || (d == 42))) _ apart in
    let guard : ((c == 35) && begins_raw d) ≡ false = parts.1 in
    rw (space.0, r.0, b.0, k.0, start, decimal.0, apostrophe.0, quote.0, guard, emoji) (go (c == 47) parts.0)
  where
    go : (w : Bool) → (w && ((d == 47) || (d == 42))) ≡ false → (if w then (if d == 47 then opens.LineComment else (if d == 42 then opens.BlockComment else opens.Symbol)) else opens.Symbol) ≡ opens.Symbol
    go true h = let marks = or_parts (d == 47) (d == 42) h in rw (marks.0, marks.1) refl
    go false h = refl

-- a sign is a token, if what follows makes no comment and no prefix with it
pub sign_read : (c : ℕ) (rest : List ℕ) → is_sign c ≡ true → is_glued c (first rest) ≡ false → reading (c ∷ rest) ≡ (symbol c, rest)
unfolding reading reading_of
sign_read c rest is apart = ap (λ f. reading_of f (c ∷ rest) rest) (lone_opening c (first rest) (second rest) (sign_lone c is) apart)

-- a space is a token if no white space follows it
pub space_read : (rest : List ℕ) → is_whitespace (first rest) ≡ false → reading (32 ∷ rest) ≡ (kinds.Whitespace, rest)
unfolding reading reading_of opening
space_read rest h = ap (λ t. (kinds.Whitespace, t)) (behind_none is_whitespace rest h)
