-- The answer of the command that reads a Rust text, and the state after it.
use Rattle.std.specs.Prelude.{◌≡◌, ◌⊎◌, ℕ, List, ◌∷◌, [], ◌++◌, codes, decimal}
use Rattle.tt.specs.Forest.{Root}
use Rattle.tt_base.specs.declared.fault.TtFault.TheVariants.{TooManyBytes}
use Rattle.tt_base.specs.declared.span.SpanPart.{SpanPart}
use Rattle.app_console.specs.Answer.{line, ok_line, fault_line}
use Rattle.app_console.specs.State.{State, with_tree}
use Rattle.syntax_parse.specs.Bracket.{closing_of, opening_of}
use Rattle.syntax_parse.specs.Parsed.{IsParse}
use Rattle.syntax_parse.specs.Refusal.{IsRefusal}
use Rattle.syntax_parse.specs.declared.bracket.Bracket.{Bracket}
use Rattle.syntax_parse.specs.declared.fault.BadToken.{BadToken}
use Rattle.syntax_parse.specs.declared.fault.BadToken.TheVariants as bad
use Rattle.syntax_parse.specs.declared.fault.SyntaxFault.{SyntaxFault}
use Rattle.syntax_parse.specs.declared.fault.SyntaxFault.TheVariants as syntax
use Rattle.syntax_parse.specs.declared.fault.TextFault.{TextFault}
use Rattle.syntax_parse.specs.declared.fault.TextFault.TheVariants as refused

-- the place of a text of a line: file 0, item 0, context 0
abbrev pub line_part : SpanPart
line_part = record { anchor = record { file_id = record { 0 = 0 }; ast_id = record { 0 = 0 } }; ctx = record { 0 = 0 } }

-- what is wrong with a token
abbrev pub bad_words : BadToken → List ℕ
bad_words bad.UnterminatedComment = codes "unterminated comment"
bad_words bad.UnterminatedLiteral = codes "unterminated literal"
bad_words bad.RawWithoutQuote = codes "raw literal without a quote"
bad_words bad.TooManyHashes = codes "too many hashes"
bad_words bad.SuffixTooLong = codes "suffix too long"
bad_words bad.NeverRaw = codes "name that is never raw"
bad_words bad.UnknownCharacter = codes "unknown character"
bad_words bad.UnknownPrefix = codes "unknown prefix"
bad_words bad.InvalidIdent = codes "invalid identifier"
bad_words bad.GuardedPrefix = codes "guarded prefix"
bad_words bad.NoDigits = codes "no digits"
bad_words bad.EmptyExponent = codes "empty exponent"
bad_words bad.FloatOfAnotherBase = codes "float of another base"
bad_words bad.ForeignDigit = codes "digit of another base"
bad_words bad.BeyondAscii = codes "character beyond ASCII"
bad_words bad.BareReturn = codes "bare carriage return"
bad_words bad.UnknownEscape = codes "unknown escape"
bad_words bad.BadHexEscape = codes "escape without two digits"
bad_words bad.HexEscapeTooLarge = codes "escape beyond 7f"
bad_words bad.BadUnicodeEscape = codes "escape of no character"
bad_words bad.WantsEscape = codes "character that wants an escape"
bad_words bad.EmptyChar = codes "empty character"
bad_words bad.SeveralChars = codes "several characters"
bad_words bad.NullInCStr = codes "null in a C string"
bad_words bad.LifetimeBeginsWithDigit = codes "lifetime that begins with a digit"

-- `text`, the byte of the fault, and the fault
abbrev pub text_words : (at : ℕ) → (what : List ℕ) → List ℕ
text_words at what = codes "text " ++ decimal at ++ codes " " ++ what

-- a text's first fault: the byte of the token or of the bracket, and what is wrong with it
abbrev pub syntax_words : SyntaxFault → List ℕ
syntax_words (syntax.BadToken why at) = text_words at (bad_words why)
syntax_words (syntax.Unopened bracket at) = text_words at (codes "unopened " ++ closing_of bracket ∷ [])
syntax_words (syntax.Mismatched bracket at last) =
    text_words at (closing_of bracket ∷ codes " for " ++ opening_of last.bracket ∷ codes " at " ++ decimal last.at)
syntax_words (syntax.Unclosed bracket at) = text_words at (codes "unclosed " ++ opening_of bracket ∷ [])

-- why a text is refused; a text that is too long for spans has too many bytes
abbrev pub refusal_line : TextFault → List ℕ
refusal_line (refused.Syntax fault) = line (syntax_words fault)
refusal_line refused.TooLong = fault_line TooManyBytes
refusal_line (refused.Limit fault) = fault_line fault

-- the tree of the text goes to the slot, or the answer says why the text is refused
abbrev pub ReadsText : State → (slot : ℕ) → (text : List ℕ) → List ℕ → State → Type 0
ReadsText old slot text answer new =
    ((root : Root) × IsParse line_part text root × (answer ≡ ok_line) × (new ≡ with_tree old slot root))
    ⊎ ((fault : TextFault) × IsRefusal line_part text fault × (answer ≡ refusal_line fault) × (new ≡ old))
