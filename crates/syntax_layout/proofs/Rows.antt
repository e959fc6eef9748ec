-- Examples of texts with gaps. Each holds by computation.
use Rattle.std.proofs.Common.{◌≡◌, ℕ, true, false, List, [], ◌∷◌, length, codes, refl}
use Rattle.ucd_emoji.proofs.Computing.{ucd_emoji}
use Rattle.unicode_ident.proofs.Computing.{unicode_ident}
use Rattle.std.specs.Str.{chars}
use Rattle.syntax_lex.specs.Closing.{raw_text}
use Rattle.syntax_lex.specs.Front.{byte_length}
use Rattle.syntax_lex.specs.Number.{number, with_exponent, with_fraction}
use Rattle.syntax_lex.specs.Opening.{opening, symbol}
use Rattle.syntax_lex.specs.Quoted.{apostrophe, literal, quoted_char}
use Rattle.syntax_lex.specs.Reading.{first_token_of, reading, reading_of}
use Rattle.syntax_lex.specs.Word.{word}
use Rattle.syntax_lex.specs.declared.token.Token.{Token}
use Rattle.syntax_layout.proofs.SpacingRows.{tokens_of}
use Rattle.syntax_edit.specs.Kept.{ends_in_line}
use Rattle.syntax_layout.specs.Gap.{are_blank}
use Rattle.syntax_layout.specs.Layout.{laid_out, stays_before}

-- the tokens of a text
abbrev tokens : (text : List ℕ) → List Token
tokens text = tokens_of (length text) (chars text)

-- a text with these gaps
abbrev with_gaps : (text : List ℕ) → (gaps : List (List ℕ)) → List ℕ
with_gaps text gaps = laid_out text (tokens text) gaps

-- tokens that stay the same before others
touches : (stays_before (codes "a") (codes ".") ≡ true)
    × (stays_before (codes "a") (codes "!") ≡ true)
    × (stays_before (codes "'a") (codes ":") ≡ true)
    × (stays_before (codes "&") (codes "a") ≡ true)
    × (stays_before (codes "0") (codes "..") ≡ true)
    × (stays_before (codes "1.5") (codes ".") ≡ true)
    × (stays_before (codes "1") (codes "+") ≡ true)
    × (stays_before (codes "\"x\"") (codes ")") ≡ true)
    × (stays_before (codes "a") (codes "/* b */") ≡ true)
    × (stays_before (codes ")") (codes "a") ≡ true)
unfolding chars first_token_of reading reading_of opening symbol word number with_fraction with_exponent literal quoted_char apostrophe raw_text byte_length unicode_ident ucd_emoji lib.Utf8.encode
touches = (refl, refl, refl, refl, refl, refl, refl, refl, refl, refl)

-- tokens that do not
parts : (stays_before (codes "a") (codes "b") ≡ false)
    × (stays_before (codes "a") (codes "\"x\"") ≡ false)
    × (stays_before (codes "b") (codes "'x'") ≡ false)
    × (stays_before (codes "a") (codes "'b") ≡ false)
    × (stays_before (codes "a") (codes "#") ≡ false)
    × (stays_before (codes "0") (codes ".") ≡ false)
    × (stays_before (codes "1") (codes "u8") ≡ false)
    × (stays_before (codes "/") (codes "/* b */") ≡ false)
    × (stays_before (codes "#") (codes "\"x\"") ≡ false)
    × (stays_before (codes "'a") (codes "'") ≡ false)
unfolding chars first_token_of reading reading_of opening symbol word number with_fraction with_exponent literal quoted_char apostrophe raw_text byte_length unicode_ident ucd_emoji lib.Utf8.encode
parts = (refl, refl, refl, refl, refl, refl, refl, refl, refl, refl)

-- Without gaps: `a :: b`, `: :` that is not joint, a number before a point and before two. With gaps: a line break and a comment, a comment
-- right after `/`, a comment to the end of a line, and a gap before the first token. With a gap behind the last: a comment, one right after
-- `/`, and one without a token.
laid_out_rows : (with_gaps (codes "a :: b") [] ≡ codes "a::b")
    × (with_gaps (codes "a : : b") [] ≡ codes "a: :b")
    × (with_gaps (codes "a + b") ([] ∷ codes "\n  " ∷ codes " /* c */ " ∷ []) ≡ codes "a\n  + /* c */ b")
    × (with_gaps (codes "a / b") ([] ∷ [] ∷ codes "/* c */" ∷ []) ≡ codes "a/ /* c */b")
    × (with_gaps (codes "a / b") ([] ∷ codes " // c\n" ∷ []) ≡ codes "a // c\n/b")
    × (with_gaps (codes "t . 0 . x") [] ≡ codes "t.0.x")
    × (with_gaps (codes "0 .. n") [] ≡ codes "0..n")
    × (with_gaps (codes "a b") (codes "\n" ∷ []) ≡ codes "\na b")
    × (with_gaps (codes "a ;") ([] ∷ [] ∷ codes " // c\n" ∷ []) ≡ codes "a; // c\n")
    × (with_gaps (codes "a /") ([] ∷ [] ∷ codes "/* c */" ∷ []) ≡ codes "a/ /* c */")
    × (with_gaps [] (codes "/* c */" ∷ []) ≡ codes "/* c */")
unfolding chars first_token_of reading reading_of opening symbol word number with_fraction with_exponent literal quoted_char apostrophe raw_text byte_length unicode_ident ucd_emoji lib.Utf8.encode
laid_out_rows = (refl, refl, refl, refl, refl, refl, refl, refl, refl, refl, refl)

-- a gap has only blank tokens, and its last token is no comment to the end of a line: three gaps, and four texts that are none
gaps : (are_blank (tokens (codes " // c\n")) ≡ true) × (ends_in_line (tokens (codes " // c\n")) ≡ false)
    × (are_blank (tokens (codes " /* c */")) ≡ true) × (ends_in_line (tokens (codes " /* c */")) ≡ false)
    × (are_blank (tokens (codes "")) ≡ true) × (ends_in_line (tokens (codes "")) ≡ false)
    × (are_blank (tokens (codes " // c")) ≡ true) × (ends_in_line (tokens (codes " // c")) ≡ true)
    × (are_blank (tokens (codes "/// d\n")) ≡ false) × (ends_in_line (tokens (codes "/// d\n")) ≡ false)
    × (are_blank (tokens (codes "/* c")) ≡ false) × (ends_in_line (tokens (codes "/* c")) ≡ false)
    × (are_blank (tokens (codes "x")) ≡ false) × (ends_in_line (tokens (codes "x")) ≡ false)
unfolding chars first_token_of reading reading_of opening symbol word number with_fraction with_exponent literal quoted_char apostrophe raw_text byte_length unicode_ident ucd_emoji lib.Utf8.encode
gaps = (refl, refl, refl, refl, refl, refl, refl, refl, refl, refl, refl, refl, refl, refl)
