-- The first token of a text, and the tokens of a text.
use Rattle.std.specs.Prelude.{◌≡◌, ◌≢◌, ℕ, ◌+◌, ◌-◌, List, [], ◌∷◌}
use Rattle.syntax_lex.specs.Class.{is_odd_rest, is_whitespace}
use Rattle.syntax_lex.specs.Comments.{block_comment, line_comment}
use Rattle.syntax_lex.specs.Front.{first, second, skip, behind, behind_name, byte_length}
use Rattle.syntax_lex.specs.Literals.{byte_literal, byte_str_literal, c_str_literal, number_literal, raw_byte_str_literal, raw_c_str_literal, raw_str_literal, str_literal}
use Rattle.syntax_lex.specs.Opening.{opening, symbol}
use Rattle.syntax_lex.specs.Quoted.{apostrophe}
use Rattle.syntax_lex.specs.Word.{word}
use Rattle.syntax_lex.specs.declared.opening.Family.{Family}
use Rattle.syntax_lex.specs.declared.opening.Family.TheVariants as opens
use Rattle.syntax_lex.specs.declared.token.Token.{Token}
use Rattle.syntax_lex.specs.declared.token.TokenKind.{TokenKind}
use Rattle.syntax_lex.specs.declared.token.TokenKind.TheVariants as kinds

-- The first token of a text by its family, and the rest after the token; `cs` is the rest after the text's first character.
unfoldable pub reading_of : Family → (text cs : List ℕ) → TokenKind × List ℕ
reading_of opens.LineComment text cs = line_comment (skip cs)
reading_of opens.BlockComment text cs = block_comment (skip cs)
reading_of opens.Whitespace text cs = (kinds.Whitespace, behind is_whitespace cs)
reading_of opens.RawIdent text cs = (kinds.RawIdent, behind_name (skip cs))
reading_of opens.RawStr text cs = raw_str_literal text cs
reading_of opens.Byte text cs = byte_literal text (skip cs)
reading_of opens.ByteStr text cs = byte_str_literal text (skip cs)
reading_of opens.RawByteStr text cs = raw_byte_str_literal text (skip cs)
reading_of opens.CStr text cs = c_str_literal text (skip cs)
reading_of opens.RawCStr text cs = raw_c_str_literal text (skip cs)
reading_of opens.Word text cs = word cs
reading_of opens.Number text cs = number_literal text cs
reading_of opens.Guarded text cs = (kinds.GuardedStrPrefix, skip cs)
reading_of opens.Apostrophe text cs = apostrophe text cs
reading_of opens.Str text cs = str_literal text cs
reading_of opens.OddWord text cs = (kinds.InvalidIdent, behind is_odd_rest cs)
reading_of opens.Symbol text cs = (symbol (first text), cs)

-- The first token of a text, and the rest after it. An empty text has no token; the value for it has no meaning.
unfoldable pub reading : (text : List ℕ) → TokenKind × List ℕ
reading [] = (kinds.Unknown, [])
reading (c ∷ cs) = reading_of (opening c (first cs) (second cs)) (c ∷ cs) cs

-- the first token of a text: its kind, and how many bytes it takes
unfoldable pub first_token_of : (text : List ℕ) → Token
first_token_of text = record { kind = (reading text).0; len = byte_length text - byte_length (reading text).1 }

-- The tokens are those of a text: the first is its first, and the others are those of the rest. An empty text has none.
abbrev pub AreTokensOf : List Token → (text : List ℕ) → Type 0
AreTokensOf [] text = text ≡ []
AreTokensOf (token ∷ tokens) text = (text ≢ []) × (token ≡ first_token_of text) × AreTokensOf tokens (reading text).1

-- how many bytes tokens take
abbrev pub bytes_of : List Token → ℕ
bytes_of [] = 0
bytes_of (token ∷ tokens) = token.len + bytes_of tokens
