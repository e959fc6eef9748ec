-- Names.
use Rattle.std.specs.Prelude.{ℕ, ◌==◌, ◌&&◌, Bool, true, false, List, chars, length, nat_lt, Option, Some, None, if◌then◌else◌}
use Rattle.std.specs.Str.{trim}
use Rattle.syntax_lex.specs.Reading.{first_token_of}
use Rattle.syntax_lex.specs.declared.token.Token.{Token}
use Rattle.syntax_lex.specs.declared.token.TokenKind.{TokenKind}
use Rattle.syntax_lex.specs.declared.token.TokenKind.TheVariants as kinds
use Rattle.tt_base.specs.Token.{without_raw_prefix}

-- a name that is not raw
abbrev pub is_ident : TokenKind → Bool
is_ident kinds.Ident = true
is_ident _ = false

-- the token is a name of so many bytes
abbrev pub is_ident_of : (len : ℕ) → Token → Bool
is_ident_of len token = is_ident token.kind && (token.len == len)

-- a text is one name of Rust, and not raw
abbrev pub is_name : (text : List ℕ) → Bool
is_name text = nat_lt (length text) 4294967296 && is_ident_of (length text) (first_token_of (chars text))

-- a text, if it is a name
abbrev pub if_name : (text : List ℕ) → Option (List ℕ)
if_name text = if is_name text then Some text else None

-- the name in a text with white space around it: a raw name is the same name
abbrev pub name_in : (text : List ℕ) → Option (List ℕ)
name_in text = if_name (without_raw_prefix (trim text))
