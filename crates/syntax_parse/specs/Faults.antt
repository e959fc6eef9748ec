-- The first fault of tokens.
use Rattle.std.specs.Prelude.{ℕ, ◌+◌, List, [], ◌∷◌, take, drop, Option, None, Some, Result, Ok, Err, if◌then◌else◌}
use Rattle.tt_base.specs.declared.delimiter.DelimiterKind.{DelimiterKind}
use Rattle.syntax_lex.specs.declared.token.Token.{Token}
use Rattle.syntax_lex.specs.declared.token.TokenKind.{TokenKind}
use Rattle.syntax_parse.specs.Role.{kind_of, role_in, same_bracket}
use Rattle.syntax_parse.specs.declared.fault.Open.{Open}
use Rattle.syntax_parse.specs.declared.fault.SyntaxFault.{SyntaxFault}
use Rattle.syntax_parse.specs.declared.fault.SyntaxFault.TheVariants.{BadToken, Unopened, Mismatched, Unclosed}
use Rattle.syntax_parse.specs.declared.role.Role.{Role}
use Rattle.syntax_parse.specs.declared.role.Role.TheVariants.{Bad, Nothing, Opens, Closes, Leaf}

-- the brackets that are open after a token of a role at a byte, innermost first, or why the token cannot be there
abbrev pub step_as : Role → (before : List Open) → (at : ℕ) → Result (List Open) SyntaxFault
step_as (Bad why) before at = Err (BadToken why at)
step_as Nothing before at = Ok before
step_as Leaf before at = Ok before
step_as (Opens bracket) before at = Ok (record { bracket = bracket; at = at } ∷ before)
step_as (Closes bracket) [] at = Err (Unopened bracket at)
step_as (Closes bracket) (last ∷ before) at = if same_bracket last.bracket bracket then Ok before else Err (Mismatched bracket at last)

-- the same for a token of a kind with this text
abbrev pub step : (before : List Open) → (at : ℕ) → TokenKind → (text : List ℕ) → Result (List Open) SyntaxFault
step before at kind text = step_as (role_in kind text) before at

-- this fault, or else the first one after it
abbrev pub or_behind : Result (List Open) SyntaxFault → (List Open → Option SyntaxFault) → Option SyntaxFault
or_behind (Ok next) behind = behind next
or_behind (Err fault) behind = Some fault

-- the first fault of the tokens of a text that begins at a byte, if these brackets are open, innermost first
abbrev pub fault_from : (before : List Open) → (at : ℕ) → (text : List ℕ) → List Token → Option SyntaxFault
fault_from [] at text [] = None
fault_from (last ∷ before) at text [] = Some (Unclosed last.bracket last.at)
fault_from before at text (token ∷ tokens) =
    or_behind (step before at token.kind (take token.len text)) (λ next. fault_from next (at + token.len) (drop token.len text) tokens)

-- the kinds of brackets that are open
abbrev pub kinds_of : List Open → List DelimiterKind
kinds_of [] = []
kinds_of (it ∷ before) = kind_of it.bracket ∷ kinds_of before
