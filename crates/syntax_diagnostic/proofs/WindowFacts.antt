-- Characters of a text, one by one.
use Rattle.std.proofs.Common.{◌≡◌, ℕ, zero, suc, ◌+◌, ◌-◌, ◌<◌, false, nat_lt, List, [], ◌∷◌, ◌++◌, length, refl, ap, sym, ◌∙◌, arith, map, take, drop}
use Rattle.std.proofs.lemmas.Bool.Decides.{nat_tests}
use Rattle.std.proofs.lemmas.List.{length-drop}
use Rattle.std.specs.Prelude.{encode_utf8, encode_utf8_all}
use Rattle.syntax_diagnostic.specs.Mark.{shown_char}

-- one more character is passed
pub skip_step : (count n c : ℕ) (all rest : List ℕ) → n < count → all ≡ c ∷ rest → drop (count - n) all ≡ drop (count - (n + 1)) rest
skip_step count n c all rest below e = let more : count - n ≡ suc (count - (n + 1)) = omega arith in rw (e, more) refl

-- no more character
pub skip_end : (count : ℕ) (all : List ℕ) → all ≡ [] → drop count all ≡ []
skip_end zero all e = e
skip_end (suc count) all e = rw e refl

-- no character is after that many
pub no_more : (count : ℕ) (all : List ℕ) → drop count all ≡ [] → false ≡ nat_lt count (length all)
no_more count all e = let none : length all - count ≡ 0 = sym (length-drop count all) ∙ ap length e in grind (arith, nat_tests)

-- one more character is added
pub add_step : (count n c : ℕ) (all rest : List ℕ) → n < count → all ≡ c ∷ rest
    → encode_utf8_all (map shown_char (take (count - n) all)) ≡ encode_utf8 (shown_char c) ++ encode_utf8_all (map shown_char (take (count - (n + 1)) rest))
add_step count n c all rest below e = let more : count - n ≡ suc (count - (n + 1)) = omega arith in rw (e, more) refl

-- no more character
pub add_end : (count : ℕ) (all : List ℕ) → all ≡ [] → encode_utf8_all (map shown_char (take count all)) ≡ []
add_end count all e = rw e (nothing count) where
  nothing : (count : ℕ) → encode_utf8_all (map shown_char (take count [])) ≡ []
  nothing zero = refl
  nothing (suc count) = refl
