-- Which words are numbers.
use Rattle.app_language.specs.Reading.{Reads}
use Rattle.app_language.specs.WordLaws.{own}
use Rattle.std.proofs.Common.{◌≡◌, ◌≢◌, ℕ, take, ◌^◌, ◌<◌, ◌≤◌, List, ◌⊎◌, Result, Ok, Err, Option, Some, None, MatchOption, zero, suc, length, get_or, sym, ap, ◌∙◌, subst, arith, lit<}
use Rattle.std.specs.Char.{IsNotAsciiDigit}
use Rattle.std.specs.Fmt.{decimal}
use Rattle.std.specs.Result.{OkIff, result_ok}
use Rattle.std.specs.Str.Parse.{AllDigits, digits_value}
use Rattle.std.proofs.lemmas.Str.Parse.{digit_at, digits_value_short}
use Rattle.std.proofs.lemmas.List.{length-take}
use Rattle.std.proofs.lemmas.Fmt.{decimal_digit, decimal_nonempty, first_decimal, decimal-digits_value, digits_decimal, digits_value-decimal, length-decimal-le, decimal_injective}

-- a number has at least one digit
pub no_empty : (word : List ℕ) → length word ≡ 0 → (n : ℕ) → n < 2 ^ 64 → word ≢ decimal n
no_empty word none n small e =
    let some = decimal_nonempty n (omega arith) in
    let same : length word ≡ length (decimal n) = ap length e in
    omega arith

-- a number has at most twenty digits
pub no_longer : (word : List ℕ) → 20 < length word → (n : ℕ) → n < 2 ^ 64 → word ≢ decimal n
no_longer word long n small e =
    let short = length-decimal-le 20 n (lit< tt) (omega arith) (omega arith) in
    let same : length word ≡ length (decimal n) = ap length e in
    omega arith

-- a number of several digits begins with no 0
pub no_zero : (word : List ℕ) → 1 < length word → get_or word 0 0 ≡ 48 → (n : ℕ) → n < 2 ^ 64 → word ≢ decimal n
no_zero word long zeroed zero small e =
    let one : length word ≡ 1 = ap length (e ∙ decimal_digit 0 (lit< tt)) in
    omega arith
no_zero word long zeroed (suc n) small e =
    let first = first_decimal (suc n) (omega arith) (omega arith) in
    let same : get_or (decimal (suc n)) 0 0 ≡ 48 = ap (λ w. get_or w 0 0) (sym e) ∙ zeroed in
    omega arith

-- each byte of a number is a digit
pub no_other : (word : List ℕ) (i : ℕ) → i < length word → IsNotAsciiDigit (get_or word i 0) → (n : ℕ) → n < 2 ^ 64 → word ≢ decimal n
no_other word i here other n small e =
    let digit = digit_at word i (subst (AllDigits 10) (sym e) (digits_decimal own n (omega arith))) here in
    omega arith

-- its value is the number
pub no_greater : (word : List ℕ) → 2 ^ 64 ≤ digits_value 10 word → (n : ℕ) → n < 2 ^ 64 → word ≢ decimal n
no_greater word great n small e =
    let same : digits_value 10 word ≡ n = ap (digits_value 10) e ∙ digits_value-decimal own n (omega arith) in
    omega arith

-- digits with no leading zero are a number, if their value is small enough
pub number_read : {E : Type 0} (word : List ℕ) (value : ℕ) (r : Result ℕ E) → AllDigits 10 word → value ≡ digits_value 10 word → 0 < length word
    → (get_or word 0 0 ≡ 48) × (length word ≤ 1) ⊎ (get_or word 0 0 ≡ 48 → ⊥) → OkIff r (value < 2 ^ 64) value → Reads decimal (λ n. n < 2 ^ 64) word (result_ok r)
number_read word value (Ok n) digits is some single (small, same) =
    let one : get_or word 0 0 ≡ 48 → length word ≡ 1 = λ z. omega arith in
    (sym (ap decimal (same ∙ is) ∙ decimal-digits_value own word digits some one (omega arith)), omega arith)
number_read word value (Err e) digits is some single great = no_greater word (omega arith)

-- twenty digits are below 10^20
pub value_small : (word : List ℕ) (i value : ℕ) → AllDigits 10 (take i word) → value ≡ digits_value 10 (take i word) → i ≤ 20 → value < 10 ^ 20
value_small word i value digits is short =
    let few : length (take i word) ≤ 20 = omega (arith, length-take i word) in
    let small = digits_value_short own (take i word) 20 digits few in
    omega arith

-- a number of a narrower type
pub narrower_read : (Fits : ℕ → Type 0) (word : List ℕ) (n : ℕ) (r : Option ℕ) → word ≡ decimal n → n < 2 ^ 64 → ((m : ℕ) → Fits m → m < 2 ^ 64)
    → MatchOption r (Fits n → ⊥) (λ m. (m ≡ n) × Fits n) → Reads decimal Fits word r
narrower_read Fits word n None is small below unfit = λ m fits e. unfit (subst Fits (decimal_injective m n (omega (arith, below m fits)) (omega arith) (sym e ∙ is)) fits)
narrower_read Fits word n (Some m) is small below (same, fits) = (is ∙ ap decimal (sym same), subst Fits (sym same) fits)

-- a number with half as many bits
pub half_read : {E : Type 0} (word : List ℕ) (n : ℕ) (r : Result ℕ E) → word ≡ decimal n → n < 2 ^ 64 → OkIff r (n < 2 ^ 32) n → Reads decimal (λ m. m < 2 ^ 32) word (result_ok r)
half_read word n (Ok m) is small (fits, same) = narrower_read (λ m. m < 2 ^ 32) word n (Some m) is small (λ m. omega arith) (same, omega arith)
half_read word n (Err e) is small great = narrower_read (λ m. m < 2 ^ 32) word n None is small (λ m. omega arith) (λ fits. great (omega arith))

-- a number of one byte
pub byte_read : {E : Type 0} (word : List ℕ) (n : ℕ) (r : Result ℕ E) → word ≡ decimal n → n < 2 ^ 64 → OkIff r (n < 2 ^ 8) n → Reads decimal (λ m. m ≤ 255) word (result_ok r)
byte_read word n (Ok m) is small (fits, same) = narrower_read (λ m. m ≤ 255) word n (Some m) is small (λ m. omega arith) (same, omega arith)
byte_read word n (Err e) is small great = narrower_read (λ m. m ≤ 255) word n None is small (λ m. omega arith) (λ fits. great (omega arith))

-- a number of a slot
pub slot_read : (word : List ℕ) (n : ℕ) (r : Option ℕ) → word ≡ decimal n → n < 2 ^ 64 → MatchOption r (16 ≤ n) (λ m. (m ≡ n) × (n < 16)) → Reads decimal (λ m. m < 16) word r
slot_read word n None is small great = narrower_read (λ m. m < 16) word n None is small (λ m. omega arith) (λ fits. omega arith)
slot_read word n (Some m) is small fits = narrower_read (λ m. m < 16) word n (Some m) is small (λ m. omega arith) fits
