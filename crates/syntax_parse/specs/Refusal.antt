-- Why a text is refused.
use Rattle.std.specs.Prelude.{◌≡◌, ℕ, ◌^◌, ◌≤◌, List, [], length, Some}
use Rattle.std.specs.Str.{chars}
use Rattle.tt_base.specs.declared.span.SpanPart.{SpanPart}
use Rattle.syntax_lex.specs.Reading.{AreTokensOf}
use Rattle.syntax_lex.specs.declared.token.Token.{Token}
use Rattle.syntax_parse.specs.Faults.{fault_from}
use Rattle.syntax_parse.specs.Limits.{IsLimit}
use Rattle.syntax_parse.specs.declared.fault.SyntaxFault.{SyntaxFault}
use Rattle.syntax_parse.specs.declared.fault.TextFault.{TextFault}
use Rattle.syntax_parse.specs.declared.fault.TextFault.TheVariants as refused

-- the first fault of a text
pub record IsFaultOf (text : List ℕ) (fault : SyntaxFault) : Type 0 where
  pub tokens : List Token
  pub read : AreTokensOf tokens (chars text)
  pub first : fault_from [] 0 text tokens ≡ Some fault

-- why a text is refused: its first fault, its length, or a limit
abbrev pub IsRefusal : SpanPart → (text : List ℕ) → TextFault → Type 0
IsRefusal part text (refused.Syntax fault) = IsFaultOf text fault
IsRefusal part text refused.TooLong = 2 ^ 32 ≤ length text
IsRefusal part text (refused.Limit fault) = IsLimit part text fault
