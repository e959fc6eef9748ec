-- A character beyond ASCII alone determines the family.
use Rattle.std.proofs.Common.{◌≡◌, ℕ, ◌<◌, ◌≤◌, false, ◌==◌, cond, nat_le, refl, arith}
use Rattle.std.proofs.lemmas.Bool.{and_right, lt-leb, ne_eqb}
use Rattle.syntax_lex.specs.Class.{is_decimal, is_emoji_mark, is_id_start, is_whitespace}
use Rattle.syntax_lex.specs.Opening.{opening}
use Rattle.syntax_lex.specs.declared.opening.Family.TheVariants as opens

wide_decimal : (c : ℕ) → 128 ≤ c → is_decimal c ≡ false
wide_decimal c wide = and_right (nat_le 48 c) _ (lt-leb c 57 (omega (arith, wide)))

wide_is : (c k : ℕ) → 128 ≤ c → k < 128 → (c == k) ≡ false
wide_is c k wide low = ne_eqb c k (λ e. omega (arith, wide, low, e))

pub opening-wide : (c d e : ℕ) → 128 ≤ c → opening c d e ≡ cond (is_whitespace c) opens.Whitespace (cond (is_id_start c) opens.Word (cond (is_emoji_mark c) opens.OddWord opens.Symbol))
unfolding opening
opening-wide c d e wide =
    rw (wide_is c 47 wide (omega arith), wide_is c 114 wide (omega arith), wide_is c 98 wide (omega arith), wide_is c 99 wide (omega arith), wide_decimal c wide, wide_is c 39 wide (omega arith), wide_is c 34 wide (omega arith), wide_is c 35 wide (omega arith)) refl
