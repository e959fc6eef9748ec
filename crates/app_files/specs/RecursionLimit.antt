-- The limit of nested expansions that a text sets by `#![recursion_limit = "N"]`.
use Rattle.std.specs.Prelude.{◌≡◌, ℕ, zero, suc, ◌^◌, ◌<◌, ◌&&◌, List, [], ◌∷◌, ◌++◌, codes, bytes_eq, Option, None, Some, if◌then◌else◌}
use Rattle.std.specs.Str.{chars}
use Rattle.std.specs.Str.Parse.{IsNumeral, digits_value, without_leading_plus}
use Rattle.syntax_lex.specs.Reading.{AreTokensOf}
use Rattle.syntax_lex.specs.declared.token.Token.{Token}
use Rattle.app_files.specs.TokenWords.{Word, words_of}
use Rattle.app_files.specs.declared.recursion_limit.Front.{Front}
use Rattle.app_files.specs.declared.recursion_limit.Front.TheVariants as front

-- how many brackets are open after a word in an attribute whose own bracket is open, and in it so many others
abbrev pub open_after : (others : ℕ) → Word → ℕ
open_after others word =
    if bytes_eq word (codes "[") then suc (suc others) else if bytes_eq word (codes "]") then others else suc others

-- the literal, if the words begin with `recursion_limit = LITERAL`
abbrev pub literal_first : List Word → Option Word
literal_first [] = None
literal_first (name ∷ []) = None
literal_first (name ∷ sign ∷ []) = None
literal_first (name ∷ sign ∷ literal ∷ words) =
    if bytes_eq name (codes "recursion_limit") && bytes_eq sign (codes "=") then Some literal else None

-- the first literal, or else the second
abbrev pub or_else : Option Word → Option Word → Option Word
or_else (Some literal) other = Some literal
or_else None other = other

-- the literal of the first `#![recursion_limit = LITERAL` behind inner attributes alone; so many brackets are open before the words
abbrev pub literal_in : (brackets : ℕ) → List Word → Option Word
literal_in zero [] = None
literal_in zero (pound ∷ []) = None
literal_in zero (pound ∷ bang ∷ []) = None
literal_in zero (pound ∷ bang ∷ bracket ∷ words) =
    if bytes_eq pound (codes "#") && bytes_eq bang (codes "!") && bytes_eq bracket (codes "[")
    then or_else (literal_first words) (literal_in 1 words) else None
literal_in (suc others) [] = None
literal_in (suc others) (word ∷ words) = literal_in (open_after others word) words

-- the text spells a number of 64 bits in decimal digits; a `+` may be before them
pub record Spells (text : List ℕ) (number : ℕ) : Type 0 where
  pub digits : IsNumeral 10 (without_leading_plus text)
  pub value : digits_value 10 (without_leading_plus text) ≡ number
  pub fits : number < 2 ^ 64

-- a text in quotes
abbrev pub quoted : (text : List ℕ) → Word
quoted text = 34 ∷ (text ++ 34 ∷ [])

-- the number in a literal: a text in quotes that spells it
abbrev pub IsNumberIn : (literal : Word) → Option ℕ → Type 0
IsNumberIn literal None = (text : List ℕ) (number : ℕ) → literal ≡ quoted text → Spells text number → ⊥
IsNumberIn literal (Some number) = (text : List ℕ) × (literal ≡ quoted text) × Spells text number

-- the limit of a literal; without one there is none
abbrev pub IsLimit : (literal : Option Word) → Option ℕ → Type 0
IsLimit None limit = limit ≡ None
IsLimit (Some literal) limit = IsNumberIn literal limit

-- the limit that a text sets
abbrev pub SetsLimit : (text : List ℕ) → Option ℕ → Type 0
SetsLimit text limit = (tokens : List Token) × AreTokensOf tokens (chars text) × IsLimit (literal_in 0 (words_of text tokens)) limit

-- the literal of the last tokens and the words behind them
abbrev pub literal_at : Front → List Word → Option Word
literal_at front.Whole words = literal_in 0 words
literal_at front.Sign words = literal_in 0 (codes "#" ∷ words)
literal_at front.Bang words = literal_in 0 (codes "#" ∷ codes "!" ∷ words)
literal_at front.Open words = literal_in 0 (codes "#" ∷ codes "!" ∷ codes "[" ∷ words)
literal_at front.Name words = literal_in 0 (codes "#" ∷ codes "!" ∷ codes "[" ∷ codes "recursion_limit" ∷ words)
literal_at front.Equals words = literal_in 0 (codes "#" ∷ codes "!" ∷ codes "[" ∷ codes "recursion_limit" ∷ codes "=" ∷ words)
literal_at (front.Inside others) words = literal_in (suc others) words
literal_at front.Behind words = None

-- how many brackets are open in an attribute besides its own
abbrev pub open_in : Front → ℕ
open_in (front.Inside others) = others
open_in _ = 0
