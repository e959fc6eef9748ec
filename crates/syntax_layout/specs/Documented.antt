-- Attributes that document something, written as comments.
use Rattle.std.specs.Prelude.{◌≡◌, ◌<◌, ◌≢◌, ℕ, Bool, true, false, not, ◌==◌, ◌&&◌, ◌||◌, List, [], ◌∷◌, ◌++◌, codes, take, drop, Option, None, Some, if◌then◌else◌}
use Rattle.std.specs.List.{list_any}
use Rattle.std.specs.Str.{chars, IsUtf8}
use Rattle.syntax_lex.specs.Reading.{first_token_of}
use Rattle.syntax_lex.specs.declared.token.DocStyle.{DocStyle}
use Rattle.syntax_lex.specs.declared.token.DocStyle.TheVariants.{Outer, Inner}
use Rattle.syntax_lex.specs.declared.token.LiteralKind.TheVariants as literals
use Rattle.syntax_lex.specs.declared.token.Token.{Token}
use Rattle.syntax_lex.specs.declared.token.TokenKind.{TokenKind}
use Rattle.syntax_lex.specs.declared.token.TokenKind.TheVariants as kinds
use Rattle.syntax_parse.specs.Doc.{hashes_wanted}
use Rattle.syntax_parse.specs.Inside.{begins_with_feed}
use Rattle.tt_base.specs.LeafText.{closing_quote, opening_quote}
use Rattle.tt_base.specs.declared.literal.LitKind.TheVariants.{StrRaw}

-- what precedes the text of a documenting attribute, as layouts write it
abbrev pub attribute_opening : DocStyle → List ℕ
attribute_opening Outer = codes "#[doc = "
attribute_opening Inner = codes "# ![doc = "

-- a text in a raw string with as many hashes as it needs
abbrev pub raw_string : (doc : List ℕ) → List ℕ
raw_string doc = opening_quote (StrRaw (hashes_wanted doc)) ++ (doc ++ closing_quote (StrRaw (hashes_wanted doc)))

-- how many hashes close a raw string
abbrev pub string_hashes : TokenKind → Option ℕ
string_hashes (kinds.Literal (literals.RawStr n_hashes) suffix_start) = n_hashes
string_hashes _ = None

-- the signs that open a comment of one line that documents something
abbrev pub comment_opening : DocStyle → List ℕ
comment_opening Outer = codes "///"
comment_opening Inner = codes "//!"

-- the comment with a text
abbrev pub comment : DocStyle → (doc : List ℕ) → List ℕ
comment style doc = comment_opening style ++ doc

-- whether a byte ends a line
abbrev pub is_line_end : ℕ → Bool
is_line_end byte = (byte == 10) || (byte == 13)

-- whether a comment with this text documents something: `////` does not
abbrev pub documents : (doc : List ℕ) → Bool
documents [] = true
documents (byte ∷ bytes) = not (byte == 47)

-- The carriage return before the first line feed of a text, or nothing, and the text from the line feed on, if only spaces precede these.
abbrev pub first_line_end : List ℕ → Option (List ℕ × List ℕ)
first_line_end [] = None
first_line_end (byte ∷ bytes) =
    if byte == 32 then first_line_end bytes
    else (if byte == 10 then Some ([], byte ∷ bytes)
    else (if (byte == 13) && begins_with_feed bytes then Some (codes "\r", bytes) else None))

-- a text begins with a raw string with as many hashes as its text needs, and a `]`
pub record IsClosed (doc behind text : List ℕ) : Type 0 where
  pub utf8 : IsUtf8 doc
  pub is : text ≡ raw_string doc ++ 93 ∷ behind
  pub few : hashes_wanted doc < 256

-- A text begins with an attribute that a comment with the text `doc` replaces, since that is read as the same leaves and brackets. The end of
-- the line follows: `ending` is its carriage return, or empty, and `rest` begins with its line feed. Spaces before them are dropped.
pub record IsReplaced (style : DocStyle) (doc ending rest text : List ℕ) : Type 0 where
  pub literal : List ℕ
  pub behind : List ℕ
  pub opens : text ≡ attribute_opening style ++ literal
  pub closed : IsClosed doc behind literal
  pub line : list_any is_line_end doc ≡ false
  pub documents : documents doc ≡ true
  pub ends : first_line_end behind ≡ Some (ending, rest)

-- whether a token is white space
abbrev pub is_white : TokenKind → Bool
is_white kinds.Whitespace = true
is_white _ = false

-- What is written of a text: comments in place of attributes, and each other token as it is. An attribute that may be replaced is, if white
-- space or nothing precedes it: `begins` says so.
pub data IsDocumented : (begins : Bool) → (text written : List ℕ) → Type 0 where
  nothing : {begins : Bool} → IsDocumented begins [] []
  becomes : {style : DocStyle} {doc ending rest text written : List ℕ}
      → IsReplaced style doc ending rest text
      → IsDocumented false rest written
      → IsDocumented true text (comment style (doc ++ ending) ++ written)
  stays : {begins : Bool} {text written : List ℕ} {token : Token}
      → chars text ≢ []
      → token ≡ first_token_of (chars text)
      → ((style : DocStyle) (doc ending rest : List ℕ) → begins ≡ true → IsReplaced style doc ending rest text → ⊥)
      → IsDocumented (is_white token.kind) (drop token.len text) written
      → IsDocumented begins text (take token.len text ++ written)
