-- The role of a token for a tree.
use Rattle.std.specs.Prelude.{ℕ, List, Option, Some, drop, Bool, true, false, not, is_none, is_some, if◌then◌else◌}
use Rattle.syntax_lex.specs.declared.token.Base.{Base}
use Rattle.syntax_lex.specs.declared.token.Base.TheVariants.{Decimal}
use Rattle.syntax_lex.specs.declared.token.LiteralKind.{LiteralKind}
use Rattle.syntax_lex.specs.declared.token.LiteralKind.TheVariants as literals
use Rattle.syntax_lex.specs.declared.token.TokenKind.{TokenKind}
use Rattle.syntax_lex.specs.declared.token.TokenKind.TheVariants as kinds
use Rattle.tt_base.specs.declared.delimiter.DelimiterKind.{DelimiterKind}
use Rattle.tt_base.specs.declared.delimiter.DelimiterKind.TheVariants as delimits
use Rattle.syntax_parse.specs.declared.bracket.Bracket.{Bracket}
use Rattle.syntax_parse.specs.declared.bracket.Bracket.TheVariants.{Parenthesis, Brace, Square}
use Rattle.syntax_parse.specs.declared.fault.BadToken.{BadToken}
use Rattle.syntax_parse.specs.declared.fault.BadToken.TheVariants as bad
use Rattle.syntax_parse.specs.Inside.{block_fault, line_fault, literal_fault}
use Rattle.syntax_parse.specs.RawLiteral.{raw_fault}
use Rattle.syntax_parse.specs.RawName.{behind_apostrophe, raw_name_fault}
use Rattle.syntax_parse.specs.declared.role.Role.{Role}
use Rattle.syntax_parse.specs.declared.role.Role.TheVariants.{Bad, Nothing, Opens, Closes, Leaf}

-- the kind of the delimiter of a subtree in these brackets
abbrev pub kind_of : Bracket → DelimiterKind
kind_of Parenthesis = delimits.Parenthesis
kind_of Brace = delimits.Brace
kind_of Square = delimits.Bracket

-- whether two brackets are a pair
abbrev pub same_bracket : Bracket → Bracket → Bool
same_bracket Parenthesis Parenthesis = true
same_bracket Brace Brace = true
same_bracket Square Square = true
same_bracket _ _ = false

-- bad for this reason if something is wrong, else a leaf
abbrev pub or_leaf : (wrong : Bool) → BadToken → Role
or_leaf wrong why = if wrong then Bad why else Leaf

-- what a comment is: a leaf if it documents something
abbrev pub comment_role : (documents : Bool) → Role
comment_role documents = if documents then Leaf else Nothing

-- what a float is: a leaf if it has base ten and a digit after its `e`
abbrev pub float_role : Base → (empty_exponent : Bool) → Role
float_role Decimal empty_exponent = or_leaf empty_exponent bad.EmptyExponent
float_role _ empty_exponent = if empty_exponent then Bad bad.EmptyExponent else Bad bad.FloatOfAnotherBase

-- what a literal with this text is: a leaf if it is closed and has the digits that it needs
abbrev pub literal_role : LiteralKind → (text : List ℕ) → Role
literal_role (literals.Int base empty_int) text = or_leaf empty_int bad.NoDigits
literal_role (literals.Float base empty_exponent) text = float_role base empty_exponent
literal_role (literals.Char terminated) text = or_leaf (not terminated) bad.UnterminatedLiteral
literal_role (literals.Byte terminated) text = or_leaf (not terminated) bad.UnterminatedLiteral
literal_role (literals.Str terminated) text = or_leaf (not terminated) bad.UnterminatedLiteral
literal_role (literals.ByteStr terminated) text = or_leaf (not terminated) bad.UnterminatedLiteral
literal_role (literals.CStr terminated) text = or_leaf (not terminated) bad.UnterminatedLiteral
literal_role (literals.RawStr n_hashes) text = or_leaf (is_none n_hashes) (raw_fault (drop 1 text))
literal_role (literals.RawByteStr n_hashes) text = or_leaf (is_none n_hashes) (raw_fault (drop 2 text))
literal_role (literals.RawCStr n_hashes) text = or_leaf (is_none n_hashes) (raw_fault (drop 2 text))

-- what a token of a kind is to a tree, whatever its text holds, in edition 2024
abbrev pub role_of : TokenKind → Role
role_of (kinds.LineComment doc) = comment_role (is_some doc)
role_of (kinds.BlockComment doc terminated) = if terminated then comment_role (is_some doc) else Bad bad.UnterminatedComment
role_of kinds.Whitespace = Nothing
role_of kinds.InvalidIdent = Bad bad.InvalidIdent
role_of kinds.UnknownPrefix = Bad bad.UnknownPrefix
role_of kinds.UnknownPrefixLifetime = Bad bad.UnknownPrefix
role_of kinds.GuardedStrPrefix = Bad bad.GuardedPrefix
role_of kinds.Unknown = Bad bad.UnknownCharacter
role_of (kinds.Lifetime starts_with_number) = or_leaf starts_with_number bad.LifetimeBeginsWithDigit
role_of kinds.OpenParen = Opens Parenthesis
role_of kinds.CloseParen = Closes Parenthesis
role_of kinds.OpenBrace = Opens Brace
role_of kinds.CloseBrace = Closes Brace
role_of kinds.OpenBracket = Opens Square
role_of kinds.CloseBracket = Closes Square
role_of _ = Leaf

-- the role, or bad if it is a leaf with something wrong inside
abbrev pub with_inside : Role → (inside : Option BadToken) → Role
with_inside Leaf (Some why) = Bad why
with_inside role _ = role

-- the role of a token with this text
abbrev pub role_in : TokenKind → (text : List ℕ) → Role
role_in (kinds.Literal kind suffix_start) text = with_inside (literal_role kind text) (literal_fault kind suffix_start text)
role_in (kinds.LineComment (Some style)) text = with_inside (role_of (kinds.LineComment (Some style))) (line_fault style text)
role_in (kinds.BlockComment (Some style) terminated) text = with_inside (role_of (kinds.BlockComment (Some style) terminated)) (block_fault style text)
role_in kinds.RawIdent text = with_inside Leaf (raw_name_fault text)
role_in kinds.RawLifetime text = with_inside Leaf (raw_name_fault (behind_apostrophe text))
role_in kind text = role_of kind
