-- What the definitions say of literals, next to what the Rust reference says of them.
use Rattle.std.proofs.Common.{◌≡◌, true, ◌∷◌, ◌++◌, None, Some, codes, refl}
use Rattle.syntax_parse.specs.Inside.{inside_fault}
use Rattle.syntax_parse.specs.declared.fault.BadToken.TheVariants as bad
use Rattle.syntax_lex.specs.declared.token.LiteralKind.TheVariants as literals

simple : (inside_fault (literals.Char true) (codes "'\\n'") ≡ None)
    × (inside_fault (literals.Char true) (codes "'\\r'") ≡ None)
    × (inside_fault (literals.Char true) (codes "'\\t'") ≡ None)
    × (inside_fault (literals.Char true) (codes "'\\\\'") ≡ None)
    × (inside_fault (literals.Char true) (codes "'\\''") ≡ None)
    × (inside_fault (literals.Char true) (codes "'\\\"'") ≡ None)
    × (inside_fault (literals.Char true) (codes "'\\0'") ≡ None)
    × (inside_fault (literals.Str true) (codes "\"\\t\"") ≡ None)
    × (inside_fault (literals.Byte true) (codes "b'\\r'") ≡ None)
    × (inside_fault (literals.Char true) (codes "'\\a'") ≡ Some bad.UnknownEscape)
simple = (refl, refl, refl, refl, refl, refl, refl, refl, refl, refl)

numbers : (inside_fault (literals.Char true) (codes "'\\x41'") ≡ None)
    × (inside_fault (literals.Str true) (codes "\"\\x7F\"") ≡ None)
    × (inside_fault (literals.Str true) (codes "\"\\x80\"") ≡ Some bad.HexEscapeTooLarge)
    × (inside_fault (literals.ByteStr true) (codes "b\"\\xfF\"") ≡ None)
    × (inside_fault (literals.Str true) (codes "\"\\u{10FFFF}\"") ≡ None)
    × (inside_fault (literals.Str true) (codes "\"\\u{110000}\"") ≡ Some bad.BadUnicodeEscape)
    × (inside_fault (literals.Byte true) (codes "b'\\u{41}'") ≡ Some bad.UnknownEscape)
    × (inside_fault (literals.CStr true) (codes "c\"\\x00\"") ≡ Some bad.NullInCStr)
numbers = (refl, refl, refl, refl, refl, refl, refl, refl)

-- `b"é"`, in UTF-8, and carriage returns with and without their line feed
bytes : (inside_fault (literals.ByteStr true) (codes "b\"" ++ (195 ∷ 169 ∷ codes "\"")) ≡ Some bad.BeyondAscii)
    × (inside_fault (literals.Byte true) (codes "b'" ++ (195 ∷ 169 ∷ codes "'")) ≡ Some bad.BeyondAscii)
    × (inside_fault (literals.Str true) (codes "\"" ++ (195 ∷ 169 ∷ codes "\"")) ≡ None)
    × (inside_fault (literals.Str true) (codes "\"a\rb\"") ≡ Some bad.BareReturn)
    × (inside_fault (literals.Str true) (codes "\"a\r\"") ≡ Some bad.BareReturn)
    × (inside_fault (literals.ByteStr true) (codes "b\"\\\rb\"") ≡ Some bad.BareReturn)
    × (inside_fault (literals.Str true) (codes "\"a\r\nb\"") ≡ None)
    × (inside_fault (literals.ByteStr true) (codes "b\"\\\r\nb\"") ≡ None)
    × (inside_fault (literals.Char true) (codes "'\t'") ≡ Some bad.WantsEscape)
    × (inside_fault (literals.Char true) (codes "'''") ≡ Some bad.WantsEscape)
bytes = (refl, refl, refl, refl, refl, refl, refl, refl, refl, refl)
