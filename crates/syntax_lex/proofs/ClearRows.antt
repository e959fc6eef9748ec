-- Tokens that are clear of what follows them, and some that are not, as the definitions compute.
use Rattle.std.proofs.Common.{◌≡◌, ℕ, true, false, [], ◌++◌, codes, refl, take}
use Rattle.ucd_emoji.proofs.Computing.{ucd_emoji}
use Rattle.unicode_ident.proofs.Computing.{unicode_ident}
use Rattle.syntax_lex.specs.Closing.{raw_text}
use Rattle.syntax_lex.specs.Front.{byte_length}
use Rattle.syntax_lex.specs.Number.{number, with_exponent, with_fraction}
use Rattle.syntax_lex.specs.Opening.{opening, symbol}
use Rattle.syntax_lex.specs.Quoted.{apostrophe, literal, quoted_char}
use Rattle.syntax_lex.specs.Reading.{reading, reading_of}
use Rattle.syntax_lex.specs.Word.{word}
use Rattle.syntax_lex.specs.declared.token.Base.TheVariants as base
use Rattle.syntax_lex.specs.declared.token.LiteralKind.TheVariants as literals
use Rattle.syntax_lex.specs.declared.token.TokenKind.{TokenKind}
use Rattle.syntax_lex.specs.declared.token.TokenKind.TheVariants as kinds
use Rattle.syntax_lex.specs.Clear.{Clear}

int : (suffix_start : ℕ) → TokenKind
int n = kinds.Literal (literals.Int base.Decimal false) n

clear : Clear kinds.Ident (codes "ab") (codes "-c")
    × Clear (int 1) (codes "1") (codes "..2")
    × Clear (int 1) (codes "1") (codes ".foo")
    × Clear (int 1) (codes "1u8") (codes ".5")
    × Clear (kinds.Lifetime false) (codes "'a") (codes "+b")
    × Clear (kinds.Literal (literals.Str true) 3) (codes "\"a\"") (codes "#")
    × Clear kinds.Slash (codes "/") (codes "=/")
    × Clear kinds.Dot (codes ".") (codes "..")
unfolding int reading reading_of opening symbol word number with_fraction with_exponent literal quoted_char apostrophe raw_text byte_length unicode_ident ucd_emoji lib.Utf8.encode
clear = (refl, refl, refl, refl, refl, refl, refl, refl)

-- what is read instead of a token that is not clear
unclear : ((reading (codes "ab" ++ take 2 (codes "c"))).1 ≡ [])
    × ((reading (codes "1" ++ take 2 (codes ".5"))).1 ≡ [])
    × ((reading (codes "1" ++ take 2 (codes "e+3"))).1 ≡ [])
    × ((reading (codes "'a" ++ take 2 (codes "'b"))).0 ≡ kinds.Literal (literals.Char true) 3)
    × ((reading (codes "/" ++ take 2 (codes "/="))).1 ≡ [])
    × ((reading (codes "ab" ++ take 2 (codes "#c"))).0 ≡ kinds.UnknownPrefix)
unfolding reading reading_of opening symbol word number with_fraction with_exponent literal quoted_char apostrophe raw_text byte_length unicode_ident ucd_emoji lib.Utf8.encode
unclear = (refl, refl, refl, refl, refl, refl)
