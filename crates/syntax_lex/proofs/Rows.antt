-- What the definitions compute for texts, next to tokens that were worked out by hand.
use Rattle.std.proofs.Common.{◌≡◌, ℕ, true, false, [], ◌∷◌, None, Some, codes, refl}
use Rattle.ucd_emoji.proofs.Computing.{ucd_emoji}
use Rattle.unicode_ident.proofs.Computing.{unicode_ident}
use Rattle.syntax_lex.specs.Closing.{raw_text}
use Rattle.syntax_lex.specs.Front.{byte_length}
use Rattle.syntax_lex.specs.Number.{number, with_exponent, with_fraction}
use Rattle.syntax_lex.specs.Opening.{opening, symbol}
use Rattle.syntax_lex.specs.Quoted.{apostrophe, literal, quoted_char}
use Rattle.syntax_lex.specs.Reading.{first_token_of, reading, reading_of}
use Rattle.syntax_lex.specs.Word.{word}
use Rattle.syntax_lex.specs.declared.token.Base.TheVariants as base
use Rattle.syntax_lex.specs.declared.token.DocStyle.TheVariants as doc
use Rattle.syntax_lex.specs.declared.token.LiteralKind.TheVariants as literals
use Rattle.syntax_lex.specs.declared.token.Token.{Token}
use Rattle.syntax_lex.specs.declared.token.TokenKind.{TokenKind}
use Rattle.syntax_lex.specs.declared.token.TokenKind.TheVariants as kinds

abbrev token : (kind : TokenKind) → (len : ℕ) → Token
token kind len = record { kind = kind; len = len }

words : (first_token_of (codes "a") ≡ token (kinds.Ident) 1)
    × (first_token_of (codes "r#a") ≡ token (kinds.RawIdent) 3)
    × (first_token_of (codes "'a") ≡ token (kinds.Lifetime false) 2)
    × (first_token_of ((233 ∷ [])) ≡ token (kinds.Ident) 2)
    × (first_token_of (codes "foo\"x\"") ≡ token (kinds.UnknownPrefix) 3)
    × (first_token_of (codes "'r#a") ≡ token (kinds.RawLifetime) 4)
    × (first_token_of (codes "#\"a\"#") ≡ token (kinds.GuardedStrPrefix) 2)
    × (first_token_of ((28450 ∷ [])) ≡ token (kinds.Ident) 3)
    × (first_token_of ((8364 ∷ [])) ≡ token (kinds.Unknown) 3)
unfolding first_token_of reading reading_of opening symbol word number with_fraction with_exponent literal quoted_char apostrophe raw_text byte_length unicode_ident ucd_emoji lib.Utf8.encode
words = (refl, refl, refl, refl, refl, refl, refl, refl, refl)

numbers : (first_token_of (codes "1..2") ≡ token (kinds.Literal (literals.Int base.Decimal false) 1) 1)
    × (first_token_of (codes "1.foo") ≡ token (kinds.Literal (literals.Int base.Decimal false) 1) 1)
    × (first_token_of (codes "1.5e-3f32") ≡ token (kinds.Literal (literals.Float base.Decimal false) 6) 9)
    × (first_token_of (codes "1e") ≡ token (kinds.Literal (literals.Float base.Decimal true) 2) 2)
    × (first_token_of (codes "0x") ≡ token (kinds.Literal (literals.Int base.Hexadecimal true) 2) 2)
    × (first_token_of (codes "0b12") ≡ token (kinds.Literal (literals.Int base.Binary false) 4) 4)
    × (first_token_of (codes "1_u8") ≡ token (kinds.Literal (literals.Int base.Decimal false) 2) 4)
    × (first_token_of (codes "0xFF") ≡ token (kinds.Literal (literals.Int base.Hexadecimal false) 4) 4)
    × (first_token_of (codes "0xaBcDeF") ≡ token (kinds.Literal (literals.Int base.Hexadecimal false) 8) 8)
    × (first_token_of (codes "1E3") ≡ token (kinds.Literal (literals.Float base.Decimal false) 3) 3)
    × (first_token_of (codes "1e+3") ≡ token (kinds.Literal (literals.Float base.Decimal false) 4) 4)
unfolding first_token_of reading reading_of opening symbol word number with_fraction with_exponent literal quoted_char apostrophe raw_text byte_length unicode_ident ucd_emoji lib.Utf8.encode
numbers = (refl, refl, refl, refl, refl, refl, refl, refl, refl, refl, refl)

-- each white space character: one byte of UTF-8 below 0x80, two below 0x800, and else three
spaces : (first_token_of (9 ∷ []) ≡ token (kinds.Whitespace) 1)
    × (first_token_of (10 ∷ []) ≡ token (kinds.Whitespace) 1)
    × (first_token_of (11 ∷ []) ≡ token (kinds.Whitespace) 1)
    × (first_token_of (12 ∷ []) ≡ token (kinds.Whitespace) 1)
    × (first_token_of (13 ∷ []) ≡ token (kinds.Whitespace) 1)
    × (first_token_of (32 ∷ []) ≡ token (kinds.Whitespace) 1)
    × (first_token_of (0x85 ∷ []) ≡ token (kinds.Whitespace) 2)
    × (first_token_of (0x200e ∷ []) ≡ token (kinds.Whitespace) 3)
    × (first_token_of (0x200f ∷ []) ≡ token (kinds.Whitespace) 3)
    × (first_token_of (0x2028 ∷ []) ≡ token (kinds.Whitespace) 3)
    × (first_token_of (0x2029 ∷ []) ≡ token (kinds.Whitespace) 3)
unfolding first_token_of reading reading_of opening symbol word number with_fraction with_exponent literal quoted_char apostrophe raw_text byte_length unicode_ident ucd_emoji lib.Utf8.encode
spaces = (refl, refl, refl, refl, refl, refl, refl, refl, refl, refl, refl)

quotes : (first_token_of (codes "r\"a\"#") ≡ token (kinds.Literal (literals.RawStr (Some 0)) 4) 4)
    × (first_token_of (codes "'a'") ≡ token (kinds.Literal (literals.Char true) 3) 3)
    × (first_token_of (codes "'\\''") ≡ token (kinds.Literal (literals.Char true) 4) 4)
    × (first_token_of (codes "b'a'") ≡ token (kinds.Literal (literals.Byte true) 4) 4)
    × (first_token_of (codes "c\"x\"y") ≡ token (kinds.Literal (literals.CStr true) 4) 5)
unfolding first_token_of reading reading_of opening symbol word number with_fraction with_exponent literal quoted_char apostrophe raw_text byte_length unicode_ident ucd_emoji lib.Utf8.encode
quotes = (refl, refl, refl, refl, refl)

comments : (first_token_of (codes "/*/*/*/ */ */") ≡ token (kinds.BlockComment None false) 13)
    × (first_token_of (codes "/**/") ≡ token (kinds.BlockComment None true) 4)
    × (first_token_of (codes "/***/") ≡ token (kinds.BlockComment None true) 5)
    × (first_token_of (codes "//!a") ≡ token (kinds.LineComment (Some doc.Inner)) 4)
unfolding first_token_of reading reading_of opening symbol word number with_fraction with_exponent literal quoted_char apostrophe raw_text byte_length unicode_ident ucd_emoji lib.Utf8.encode
comments = (refl, refl, refl, refl)
