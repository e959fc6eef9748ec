-- What may be between the quotes of a literal that is not raw, as the Rust reference lists it: characters and escapes.
use Rattle.std.specs.Char.{IsScalar}
use Rattle.std.specs.Prelude.{◌≡◌, ◌≢◌, ◌⊎◌, ℕ, suc, ◌+◌, ◌*◌, ◌<◌, ◌≤◌, Bool, true, false, Contains, IsAscii, List, [], ◌∷◌, ◌++◌, Some, chars, codes, slice_get}
use Rattle.syntax_lex.specs.declared.token.LiteralKind.{LiteralKind}
use Rattle.syntax_lex.specs.declared.token.LiteralKind.TheVariants as literals

-- whether a literal is in quotes and not raw
abbrev pub is_quoted : LiteralKind → Bool
is_quoted (literals.Char terminated) = true
is_quoted (literals.Byte terminated) = true
is_quoted (literals.Str terminated) = true
is_quoted (literals.ByteStr terminated) = true
is_quoted (literals.CStr terminated) = true
is_quoted _ = false

-- the beginning of such a literal, up to its first quote
abbrev pub opening : LiteralKind → List ℕ
opening (literals.Char terminated) = codes "'"
opening (literals.Byte terminated) = codes "b'"
opening (literals.Str terminated) = codes "\""
opening (literals.ByteStr terminated) = codes "b\""
opening (literals.CStr terminated) = codes "c\""
opening _ = []

-- the quote at its end
abbrev pub closing : LiteralKind → List ℕ
closing (literals.Char terminated) = codes "'"
closing (literals.Byte terminated) = codes "'"
closing (literals.Str terminated) = codes "\""
closing (literals.ByteStr terminated) = codes "\""
closing (literals.CStr terminated) = codes "\""
closing _ = []

-- whether a literal holds exactly one character
abbrev pub holds_one : LiteralKind → Bool
holds_one (literals.Char terminated) = true
holds_one (literals.Byte terminated) = true
holds_one _ = false

-- whether a literal is of bytes
abbrev pub is_of_bytes : LiteralKind → Bool
is_of_bytes (literals.Byte terminated) = true
is_of_bytes (literals.ByteStr terminated) = true
is_of_bytes _ = false

-- a literal may hold this number as a character or a byte: a C string holds no null
abbrev pub MayHold : LiteralKind → (number : ℕ) → Type 0
MayHold (literals.CStr terminated) number = number ≢ 0
MayHold _ number = Unit {0}

-- `\x` and two digits may give this number: only ASCII if they give a character, and any if they give a byte
abbrev pub MayTell : LiteralKind → (number : ℕ) → Type 0
MayTell (literals.Char terminated) number = number < 128
MayTell (literals.Str terminated) number = number < 128
MayTell (literals.CStr terminated) number = number ≢ 0
MayTell _ number = Unit {0}

-- a character that means itself: no backslash; in a literal of one character also no quote, no end of a line and no tab
pub record StandsForItself (kind : LiteralKind) (c : ℕ) : Type 0 where
  pub no_backslash : c ≢ 92
  pub no_mark : (holds_one kind ≡ false) ⊎ (Contains (codes "'\n\r\t") c → ⊥)
  pub held : MayHold kind c

-- a digit of base 16, and its value
pub data IsDigit (c value : ℕ) : Type 0 where
  small : slice_get (codes "0123456789abcdef") value ≡ Some c → IsDigit c value
  large : slice_get (codes "0123456789ABCDEF") value ≡ Some c → IsDigit c value

-- `digits` digits of base 16, with `_` anywhere among them, give a number after digits that gave another
pub data Tell : (before : ℕ) → List ℕ → (digits number : ℕ) → Type 0 where
  none : {before : ℕ} → Tell before [] 0 before
  low_line : {before digits number : ℕ} {text : List ℕ} → Tell before text digits number → Tell before (95 ∷ text) digits number
  digit : {before c value digits number : ℕ} {text : List ℕ} → IsDigit c value → Tell (before * 16 + value) text digits number
      → Tell before (c ∷ text) (suc digits) number

-- what `\u{..}` may hold: a digit of base 16 and up to five more, with `_` after any of them, that give the number of a character
pub record IsUnicode (kind : LiteralKind) (first : ℕ) (rest : List ℕ) : Type 0 where
  pub value : ℕ
  pub digits : ℕ
  pub number : ℕ
  pub begins : IsDigit first value
  pub tell : Tell value rest digits number
  pub few : digits ≤ 5
  pub scalar : IsScalar number
  pub held : MayHold kind number

-- a character, or an escape: `\n` and its like, `\0`, `\x` and two digits, `\u{..}`, or a backslash at the end of a line
pub data IsUnit (kind : LiteralKind) : List ℕ → Type 0 where
  character : {c : ℕ} → StandsForItself kind c → IsUnit kind (c ∷ [])
  simple : {c : ℕ} → Contains (codes "nrt\\'\"") c → IsUnit kind (92 ∷ c ∷ [])
  null : MayHold kind 0 → IsUnit kind (92 ∷ 48 ∷ [])
  byte : {a b high low : ℕ} → IsDigit a high → IsDigit b low → MayTell kind (high * 16 + low) → IsUnit kind (92 ∷ 120 ∷ a ∷ b ∷ [])
  unicode : {first : ℕ} {rest : List ℕ} → is_of_bytes kind ≡ false → IsUnicode kind first rest → IsUnit kind (92 ∷ 117 ∷ 123 ∷ first ∷ (rest ++ 125 ∷ []))
  line_end : {c : ℕ} → holds_one kind ≡ false → (c ≡ 10) ⊎ (c ≡ 13) → IsUnit kind (92 ∷ c ∷ [])

-- `count` units, one after another
pub data AreUnits (kind : LiteralKind) : (count : ℕ) → List ℕ → Type 0 where
  nothing : AreUnits kind 0 []
  more : {unit rest : List ℕ} {count : ℕ} → IsUnit kind unit → AreUnits kind count rest → AreUnits kind (suc count) (unit ++ rest)

-- a line feed comes right after each carriage return
abbrev pub ReturnsEndLines : List ℕ → Type 0
ReturnsEndLines text = (before behind : List ℕ) → text ≡ before ++ (13 ∷ behind) → (rest : List ℕ) × (behind ≡ 10 ∷ rest)

-- the text of a literal: characters and escapes, exactly one if it holds one character, only ASCII if it is of bytes, with no bare carriage
-- return; the rules of tokens say that its closing quote is in it only after a backslash
pub record IsLiteralText (kind : LiteralKind) (text : List ℕ) : Type 0 where
  pub count : ℕ
  pub units : AreUnits kind count (chars text)
  pub one : (holds_one kind ≡ false) ⊎ (count ≡ 1)
  pub ascii : (is_of_bytes kind ≡ false) ⊎ IsAscii text
  pub returns : ReturnsEndLines text
