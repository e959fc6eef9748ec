-- The characters and escapes that the tables of the state machine accept, one after another. LiteralText lists the same by their codes.
use Rattle.std.specs.List.{AllByRecursion}
use Rattle.std.specs.Prelude.{◌≡◌, ◌≢◌, ◌⊎◌, ℕ, suc, ◌+◌, ◌*◌, ◌<◌, ◌≤◌, ◌==◌, true, false, List, [], ◌∷◌, ◌++◌, length, Some, unwrap_or, if◌then◌else◌}
use Rattle.std.specs.Str.{chars}
use Rattle.syntax_lex.specs.declared.token.LiteralKind.{LiteralKind}
use Rattle.syntax_parse.specs.Escapes.{hex_digit, is_escape, is_scalar, is_single, takes_high, takes_null, takes_unicode, wants_escape}

-- a literal of the kind may hold the character of that number: a C string holds no null
abbrev pub MayHold : LiteralKind → (number : ℕ) → Type 0
MayHold kind number = (takes_null kind ≡ true) ⊎ (number ≢ 0)

-- a character that means itself: no backslash; in a literal of one character also no quote, no end of a line and no tab
pub record StandsForItself (kind : LiteralKind) (c : ℕ) : Type 0 where
  pub no_backslash : c ≢ 92
  pub no_mark : (is_single kind ≡ false) ⊎ (wants_escape c ≡ false)
  pub held : MayHold kind c

-- a digit of base 16, and its value
abbrev pub IsDigit : (c value : ℕ) → Type 0
IsDigit c value = hex_digit c ≡ Some value

-- `_`, or a digit of base 16
abbrev pub IsDigitOrLine : ℕ → Type 0
IsDigitOrLine c = (c ≡ 95) ⊎ ((value : ℕ) × IsDigit c value)

-- the digits among digits and `_`
abbrev pub digits_in : List ℕ → List ℕ
digits_in [] = []
digits_in (c ∷ cs) = if c == 95 then digits_in cs else c ∷ digits_in cs

-- the number that digits of base 16 give after digits that give another
abbrev pub number_behind : (before : ℕ) → List ℕ → ℕ
number_behind before [] = before
number_behind before (c ∷ cs) = number_behind (before * 16 + unwrap_or (hex_digit c) 0) cs

-- the number that digits and `_` give
abbrev pub number_in : List ℕ → ℕ
number_in text = number_behind 0 (digits_in text)

-- what `\u{..}` may hold: one to six digits of base 16 with the number of a character; `_` may follow each digit
pub record IsUnicode (kind : LiteralKind) (text : List ℕ) : Type 0 where
  pub first : ℕ
  pub value : ℕ
  pub rest : List ℕ
  pub begins : text ≡ first ∷ rest
  pub digit : IsDigit first value
  pub digits : AllByRecursion IsDigitOrLine rest
  pub few : length (digits_in text) ≤ 6
  pub scalar : is_scalar (number_in text) ≡ true
  pub held : MayHold kind (number_in text)

-- a character, or an escape: `\n` and its like, `\0`, `\x` and two digits, `\u{..}`, or a backslash at the end of a line
pub data IsUnit (kind : LiteralKind) : List ℕ → Type 0 where
  character : {c : ℕ} → StandsForItself kind c → IsUnit kind (c ∷ [])
  simple : {c : ℕ} → is_escape c ≡ true → IsUnit kind (92 ∷ c ∷ [])
  null : MayHold kind 0 → IsUnit kind (92 ∷ 48 ∷ [])
  byte : {a b high low : ℕ} → IsDigit a high → IsDigit b low → (takes_high kind ≡ true) ⊎ (high < 8) → MayHold kind (high * 16 + low)
      → IsUnit kind (92 ∷ 120 ∷ a ∷ b ∷ [])
  unicode : {text : List ℕ} → takes_unicode kind ≡ true → IsUnicode kind text → IsUnit kind (92 ∷ 117 ∷ 123 ∷ (text ++ 125 ∷ []))
  line_end : {c : ℕ} → is_single kind ≡ false → (c ≡ 10) ⊎ (c ≡ 13) → IsUnit kind (92 ∷ c ∷ [])

-- `count` units, one after another
pub data AreUnits (kind : LiteralKind) : (count : ℕ) → List ℕ → Type 0 where
  nothing : AreUnits kind 0 []
  more : {unit rest : List ℕ} {count : ℕ} → IsUnit kind unit → AreUnits kind count rest → AreUnits kind (suc count) (unit ++ rest)

-- the text of a literal: characters and escapes, exactly one if the literal is of one character
pub record IsLiteralText (kind : LiteralKind) (text : List ℕ) : Type 0 where
  pub count : ℕ
  pub units : AreUnits kind count (chars text)
  pub one : (is_single kind ≡ false) ⊎ (count ≡ 1)
