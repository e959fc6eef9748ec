-- Which tokens depend only on their own text.
use Rattle.std.specs.Prelude.{Bool, true, false}
use Rattle.syntax_lex.specs.declared.token.TokenKind.{TokenKind}
use Rattle.syntax_lex.specs.declared.token.TokenKind.TheVariants as kinds
use Rattle.syntax_lex.specs.Stops.{is_closed}

-- whether a token is the same if nothing follows it: all except comments, white space, prefixes, names with emoji, and what is not closed
abbrev pub is_whole : TokenKind → Bool
is_whole (kinds.LineComment doc_style) = false
is_whole (kinds.BlockComment doc_style terminated) = false
is_whole kinds.Whitespace = false
is_whole kinds.InvalidIdent = false
is_whole kinds.UnknownPrefix = false
is_whole kinds.UnknownPrefixLifetime = false
is_whole kinds.GuardedStrPrefix = false
is_whole (kinds.Literal kind suffix_start) = is_closed kind
is_whole _ = true
