-- The tokens of a text, one at a time.
use Rattle.std.specs.Prelude.{◌≡◌, ◌≢◌, [], Option, MatchOption}
use Rattle.std.specs.Str.{chars}
use Rattle.syntax_lex.specs.Reading.{first_token_of, reading}
use Rattle.syntax_lex.specs.declared.token.Token.{Token}
use Rattle.syntax_lex.specs.declared.tokens.Tokenize.{Tokenize}

-- gives the first token of the rest, and then holds the rest after it; at the end it gives nothing and stays at the end
abbrev pub gives : Tokenize → Option Token → Tokenize → Type 0
gives before token after =
    MatchOption token ((chars before.rest.now ≡ []) × (chars after.rest.now ≡ []))
    (λ it. (chars before.rest.now ≢ []) × (it ≡ first_token_of (chars before.rest.now)) × (chars after.rest.now ≡ (reading (chars before.rest.now)).1))
