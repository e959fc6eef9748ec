-- A text has as many first bytes of characters as characters.
use Rattle.std.proofs.Common.{◌≡◌, ℕ, ◌+◌, ◌<◌, ◌≤◌, Bool, true, false, cond, nat_lt, ◌/◌, ◌%◌, List, [], ◌∷◌, refl, sym, ap, ◌∙◌, arith, length}
use Rattle.std.proofs.Math.Utf8.{encode, encodes}
use Rattle.std.proofs.lemmas.Bool.Decides.{nat_tests}
use Rattle.std.proofs.lemmas.List.Sums.{sum_by-append}
use Rattle.std.proofs.lemmas.Str.{encodes-chars}
use Rattle.std.specs.List.{count_by}
use Rattle.std.specs.Str.{chars, IsUtf8}
use Rattle.syntax_diagnostic.specs.Place.{begins_char}

-- a byte below 128 begins a character
low_begins : (byte : ℕ) → nat_lt byte 128 ≡ true → begins_char byte ≡ true
low_begins byte low = rw low refl

-- so does a byte from 192 on
high_begins : (byte : ℕ) → 192 ≤ byte → begins_char byte ≡ true
high_begins byte high = grind (arith, nat_tests)

-- and no byte between begins one
none_begins : (bits : ℕ) → bits < 64 → begins_char (128 + bits) ≡ false
none_begins bits low = grind (arith, nat_tests)

-- one of four texts
one_of : (p q r : Bool) (a b c d : List ℕ) → (p ≡ true → count_by begins_char a ≡ 1) → count_by begins_char b ≡ 1 → count_by begins_char c ≡ 1 → count_by begins_char d ≡ 1
    → count_by begins_char (cond p a (cond q b (cond r c d))) ≡ 1
one_of true q r a b c d ea eb ec ed = ea refl
one_of false true r a b c d ea eb ec ed = eb
one_of false false true a b c d ea eb ec ed = ec
one_of false false false a b c d ea eb ec ed = ed

-- exactly one of the bytes of a character begins it
pub one_begins : (c : ℕ) → count_by begins_char (encode c) ≡ 1
unfolding encode
one_begins c = one_of (nat_lt c 128) (nat_lt c 2048) (nat_lt c 65536) _ _ _ _
    (λ low. rw (low_begins c low) refl)
    (rw (high_begins (192 + c / 64) (omega arith), none_begins (c % 64) (omega arith)) refl)
    (rw (high_begins (224 + c / 4096) (omega arith), none_begins (c / 64 % 64) (omega arith), none_begins (c % 64) (omega arith)) refl)
    (rw (high_begins (240 + c / 262144) (omega arith), none_begins (c / 4096 % 64) (omega arith), none_begins (c / 64 % 64) (omega arith), none_begins (c % 64) (omega arith)) refl)

-- so characters have as many first bytes
begun : (cs : List ℕ) → count_by begins_char (encodes cs) ≡ length cs
begun [] = refl
begun (c ∷ cs) = sum_by-append _ (encode c) (encodes cs) ∙ omega (arith, one_begins c, begun cs)

pub chars_begun : (text : List ℕ) → IsUtf8 text → count_by begins_char text ≡ length (chars text)
chars_begun text utf8 = ap (count_by begins_char) (sym (encodes-chars text utf8)) ∙ begun (chars text)
