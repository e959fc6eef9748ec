-- The characters of brackets.
use Rattle.std.specs.Prelude.{ℕ}
use Rattle.syntax_parse.specs.declared.bracket.Bracket.{Bracket}
use Rattle.syntax_parse.specs.declared.bracket.Bracket.TheVariants.{Parenthesis, Brace, Square}

-- the character that opens a subtree
abbrev pub opening_of : Bracket → ℕ
opening_of Parenthesis = 40
opening_of Brace = 123
opening_of Square = 91

-- the character that closes a subtree
abbrev pub closing_of : Bracket → ℕ
closing_of Parenthesis = 41
closing_of Brace = 125
closing_of Square = 93
