-- How a text is split after the digits that it begins with.
use Rattle.std.proofs.Common.{◌≡◌, ◌≤◌, ◌<◌, ◌^◌, ℕ, List, [], ◌∷◌, ◌++◌, length, take, drop, get_or, refl, sym, ap, ◌∙◌, lit<, arith}
use Rattle.std.specs.Fmt.{decimal}
use Rattle.std.specs.Int.{IsInRange}
use Rattle.std.specs.Str.Parse.{AllDigits, digits_value}
use Rattle.std.proofs.lemmas.Fmt.{decimal_injective, decimal-digits_value, digits_decimal, digits_value-decimal, length-decimal-le}
use Rattle.std.proofs.lemmas.List.{length-take, take-append-drop}
use Rattle.std.proofs.lemmas.Str.Parse.{digit_from_value, digits_value_short}
use Rattle.app_language.specs.Reading.{BeginsWithNoDigit}
use Rattle.app_language.specs.WordLaws.{own}
use Rattle.app_language.proofs.Numbers.{no_empty, no_zero}

no_digit_first : (b : List ℕ) (c : ℕ) (rest : List ℕ) → BeginsWithNoDigit b → IsInRange 48 57 c → b ≡ c ∷ rest → ⊥
no_digit_first [] c rest other digit e = cc
no_digit_first (d ∷ ds) c rest other digit e = let same : d ≡ c = cc in omega arith

-- the digits that a text begins with, and what follows them, are determined
pub front_unique : (a b x y : List ℕ) → AllDigits 10 a → AllDigits 10 x → BeginsWithNoDigit b → BeginsWithNoDigit y → a ++ b ≡ x ++ y → (a ≡ x) × (b ≡ y)
front_unique [] b [] y p q s t e = (refl, e)
front_unique [] b (d ∷ x) y p q s t e = absurd (no_digit_first b d (x ++ y) s (digit_from_value d q.0) e)
front_unique (c ∷ a) b [] y p q s t e = absurd (no_digit_first y c (a ++ b) t (digit_from_value c p.0) (sym e))
front_unique (c ∷ a) b (d ∷ x) y p q s t e =
    let rest : a ++ b ≡ x ++ y = cc in
    let front : c ≡ d = cc in
    let r = front_unique a b x y p.1 q.1 s t rest in
    (cc (r.0, front), r.1)

-- leading digits are no more than all digits that are there
front_longest : (a b x y : List ℕ) → AllDigits 10 a → BeginsWithNoDigit y → a ++ b ≡ x ++ y → length a ≤ length x
front_longest [] b x y p t e = omega arith
front_longest (c ∷ a) b [] y p t e = absurd (no_digit_first y c (a ++ b) t (digit_from_value c p.0) (sym e))
front_longest (c ∷ a) b (d ∷ x) y p t e =
    let rest : a ++ b ≡ x ++ y = cc in
    omega (arith, front_longest a b x y p.1 t rest)

-- the number that a text begins with, and its rest, are determined
pub number_unique : (text : List ℕ) (m : ℕ) (x : List ℕ) (n : ℕ) (y : List ℕ) → m < 2 ^ 32 → n < 2 ^ 32 → BeginsWithNoDigit x → BeginsWithNoDigit y
    → text ≡ decimal m ++ x → text ≡ decimal n ++ y → (m ≡ n) × (x ≡ y)
number_unique text m x n y p q s t d e =
    let u = front_unique (decimal m) x (decimal n) y (digits_decimal own m (omega arith)) (digits_decimal own n (omega arith)) s t (sym d ∙ e) in
    (decimal_injective m n (omega arith) (omega arith) u.0, u.1)

-- the first `end` bytes are digits, and no digit follows them
abbrev pub IsFront : List ℕ → ℕ → Type 0
IsFront text end = AllDigits 10 (take end text) × BeginsWithNoDigit (drop end text)

-- the text begins with that number, and no digit follows it
abbrev pub BeginsSo : List ℕ → ℕ → List ℕ → Type 0
BeginsSo text n rest = (n < 2 ^ 32) × BeginsWithNoDigit rest × (text ≡ decimal n ++ rest)

-- these digits are those of the number
pub front_is : (text : List ℕ) (end : ℕ) → IsFront text end → (n : ℕ) (rest : List ℕ) → BeginsSo text n rest → take end text ≡ decimal n
front_is text end (digits, other) n rest (small, others, e) =
    (front_unique (take end text) (drop end text) (decimal n) rest digits (digits_decimal own n (omega arith)) other others (take-append-drop end text ∙ e)).0

-- with more digits than a number has, a text begins with no number
pub no_long_front : (text : List ℕ) → 19 ≤ length text → AllDigits 10 (take 19 text) → (n : ℕ) (rest : List ℕ) → BeginsSo text n rest → ⊥
no_long_front text long digits n rest (small, others, e) =
    let short = length-decimal-le 10 n (lit< tt) (omega arith) (omega arith) in
    let longest = front_longest (take 19 text) (drop 19 text) (decimal n) rest digits others (take-append-drop 19 text ∙ e) in
    omega (arith, length-take 19 text)

-- the same without a digit
pub no_empty_front : (text : List ℕ) (end : ℕ) → IsFront text end → end ≡ 0 → (n : ℕ) (rest : List ℕ) → BeginsSo text n rest → ⊥
no_empty_front text end front none n rest begins =
    no_empty (take end text) (omega (arith, length-take end text)) n (omega (arith, begins.0)) (front_is text end front n rest begins)

-- the same if the value of the digits is too large
pub no_great_front : (text : List ℕ) (end : ℕ) → IsFront text end → 2 ^ 32 ≤ digits_value 10 (take end text) → (n : ℕ) (rest : List ℕ) → BeginsSo text n rest → ⊥
no_great_front text end front great n rest begins =
    let same : digits_value 10 (take end text) ≡ n = ap (digits_value 10) (front_is text end front n rest begins) ∙ digits_value-decimal own n (omega (arith, begins.0)) in
    omega (arith, begins.0)

-- the same with a 0 before other digits
pub no_zero_front : (text : List ℕ) (end : ℕ) → IsFront text end → end ≤ length text → 1 < end → get_or (take end text) 0 0 ≡ 48 → (n : ℕ) (rest : List ℕ) → BeginsSo text n rest → ⊥
no_zero_front text end front here long zero n rest begins =
    no_zero (take end text) (omega (arith, length-take end text)) zero n (omega (arith, begins.0)) (front_is text end front n rest begins)

-- otherwise it begins with the number of that value
pub front_read : (text : List ℕ) (end : ℕ) → IsFront text end → end ≤ length text → 0 < end → (get_or (take end text) 0 0 ≡ 48 → end ≤ 1) → digits_value 10 (take end text) < 2 ^ 32
    → text ≡ decimal (digits_value 10 (take end text)) ++ drop end text
front_read text end front here some single small =
    let one : get_or (take end text) 0 0 ≡ 48 → length (take end text) ≡ 1 = λ z. omega (arith, single z, length-take end text) in
    let same = decimal-digits_value own (take end text) front.0 (omega (arith, length-take end text)) one (omega arith) in
    sym (take-append-drop end text) ∙ ap (λ w. w ++ drop end text) (sym same)

-- fewer than 19 digits are below 10^18
pub value_fits : (text : List ℕ) (i value : ℕ) → AllDigits 10 (take i text) → value ≡ digits_value 10 (take i text) → i ≤ 18 → value < 10 ^ 18
value_fits text i value digits is short =
    let few : length (take i text) ≤ 18 = omega (arith, length-take i text) in
    let small = digits_value_short own (take i text) 18 digits few in
    omega arith
