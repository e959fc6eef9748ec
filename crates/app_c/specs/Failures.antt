-- Why a call wrote no bytes, and where: the fault of this library for each fault of the libraries below.
use Rattle.std.specs.Prelude.{ℕ, Option, None, Some}
use Rattle.tt_base.specs.declared.fault.TtFault.{TtFault}
use Rattle.tt_base.specs.declared.fault.TtFault.TheVariants as limit
use Rattle.tt_bytes.specs.declared.fault.BytesFault.{BytesFault}
use Rattle.tt_bytes.specs.declared.fault.BytesFault.TheVariants as bytes
use Rattle.app_c.specs.declared.failure.Failure.{Failure}
use Rattle.app_c.specs.declared.fault.Fault.{Fault}
use Rattle.app_c.specs.declared.fault.Fault.TheVariants as answer
use Rattle.expand_text.specs.declared.fault.ExpandTextError.{ExpandTextError}
use Rattle.expand_text.specs.declared.fault.ExpandTextError.TheVariants as expanding
use Rattle.expand_text.specs.declared.fault.MacroFault.{MacroFault}
use Rattle.expand_text.specs.declared.fault.MacroFault.TheVariants as found
use Rattle.mbe_rules.specs.declared.error.TemplateError.{TemplateError}
use Rattle.mbe_rules.specs.declared.error.TemplateError.TheVariants as template
use Rattle.mbe_rules.specs.declared.rules_error.ArmFault.{ArmFault}
use Rattle.mbe_rules.specs.declared.rules_error.ArmFault.TheVariants as arm
use Rattle.mbe_rules.specs.declared.rules_error.ExpandError.{ExpandError}
use Rattle.mbe_rules.specs.declared.rules_error.RulesError.{RulesError}
use Rattle.mbe_pattern.specs.declared.error.PatternError.{PatternError}
use Rattle.mbe_pattern.specs.declared.error.PatternError.TheVariants as pattern
use Rattle.mbe_rules.specs.declared.transcribe_error.TranscribeError.{TranscribeError}
use Rattle.mbe_rules.specs.declared.transcribe_error.TranscribeError.TheVariants as filling
use Rattle.syntax_parse.specs.declared.fault.BadToken.{BadToken}
use Rattle.syntax_parse.specs.declared.fault.BadToken.TheVariants as bad
use Rattle.syntax_parse.specs.declared.fault.SyntaxFault.{SyntaxFault}
use Rattle.syntax_parse.specs.declared.fault.SyntaxFault.TheVariants as syntax
use Rattle.syntax_parse.specs.declared.fault.TextFault.{TextFault}
use Rattle.syntax_parse.specs.declared.fault.TextFault.TheVariants as text
use Rattle.syntax_unparse.specs.declared.fault.WriteFault.{WriteFault}
use Rattle.syntax_unparse.specs.declared.fault.WriteFault.TheVariants as writing

-- a fault at a place
abbrev pub at_place : Fault → (at : ℕ) → Failure
at_place fault at = record { fault = fault; at = at }

-- a fault without a place
abbrev pub placeless : Fault → Failure
placeless fault = at_place fault 0

-- a limit of trees, or memory
abbrev pub limit_fault : TtFault → Fault
limit_fault limit.Memory = answer.Memory
limit_fault limit.NotOneSubtree = answer.OtherLimit
limit_fault limit.NoSuchPlace = answer.OtherLimit
limit_fault limit.NotALeaf = answer.OtherLimit
limit_fault limit.SuffixTooLong = answer.OtherLimit
limit_fault limit.BadScan = answer.OtherLimit
limit_fault limit.TooManyTokens = answer.TooManyTokens
limit_fault limit.TooManySpanParts = answer.TooManySpanParts
limit_fault limit.TooManySymbols = answer.TooManySymbols
limit_fault limit.TooManyBytes = answer.TooManyBytes
limit_fault limit.PointsSpent = answer.OtherLimit

-- the fault of a token
abbrev pub bad_token : BadToken → Fault
bad_token bad.UnterminatedComment = answer.UnterminatedComment
bad_token bad.UnterminatedLiteral = answer.UnterminatedLiteral
bad_token bad.RawWithoutQuote = answer.RawWithoutQuote
bad_token bad.TooManyHashes = answer.TooManyHashes
bad_token bad.SuffixTooLong = answer.SuffixTooLong
bad_token bad.NeverRaw = answer.NeverRaw
bad_token bad.UnknownCharacter = answer.UnknownCharacter
bad_token bad.UnknownPrefix = answer.UnknownPrefix
bad_token bad.InvalidIdent = answer.InvalidIdent
bad_token bad.GuardedPrefix = answer.GuardedPrefix
bad_token bad.NoDigits = answer.NoDigits
bad_token bad.EmptyExponent = answer.EmptyExponent
bad_token bad.FloatOfAnotherBase = answer.FloatOfAnotherBase
bad_token bad.ForeignDigit = answer.ForeignDigit
bad_token bad.BeyondAscii = answer.BeyondAscii
bad_token bad.BareReturn = answer.BareReturn
bad_token bad.UnknownEscape = answer.UnknownEscape
bad_token bad.BadHexEscape = answer.BadHexEscape
bad_token bad.HexEscapeTooLarge = answer.HexEscapeTooLarge
bad_token bad.BadUnicodeEscape = answer.BadUnicodeEscape
bad_token bad.WantsEscape = answer.WantsEscape
bad_token bad.EmptyChar = answer.EmptyChar
bad_token bad.SeveralChars = answer.SeveralChars
bad_token bad.NullInCStr = answer.NullInCStr
bad_token bad.LifetimeBeginsWithDigit = answer.LifetimeBeginsWithDigit

-- tokens that are no trees
abbrev pub syntax_failure : SyntaxFault → Failure
syntax_failure (syntax.BadToken why at) = at_place (bad_token why) at
syntax_failure (syntax.Unopened _ at) = at_place answer.Unopened at
syntax_failure (syntax.Mismatched _ at _) = at_place answer.Mismatched at
syntax_failure (syntax.Unclosed _ at) = at_place answer.Unclosed at

-- a text that is refused
abbrev pub text_failure : TextFault → Failure
text_failure (text.Syntax fault) = syntax_failure fault
text_failure text.TooLong = placeless answer.TextTooLong
text_failure (text.Limit fault) = placeless (limit_fault fault)

-- trees that are not written
abbrev pub write_failure : WriteFault → Failure
write_failure (writing.NotWritable at) = at_place answer.NotWritable at
write_failure writing.TooLong = placeless answer.MadeTooLong
write_failure writing.Memory = placeless answer.Memory

-- bytes that are those of no tree
abbrev pub bytes_failure : BytesFault → Failure
bytes_failure bytes.Memory = placeless answer.Memory
bytes_failure (bytes.TooShort at) = at_place answer.BytesTooShort at
bytes_failure (bytes.OtherFormat at) = at_place answer.BytesOfOtherFormat at
bytes_failure (bytes.NoText at) = at_place answer.BytesWithoutText at
bytes_failure (bytes.NoTree at) = at_place answer.BytesWithoutTree at
bytes_failure (bytes.StoredOtherwise at) = at_place answer.BytesStoredOtherwise at

-- bytes of an input that are those of no tree
abbrev pub input_failure : BytesFault → Failure
input_failure bytes.Memory = placeless answer.Memory
input_failure (bytes.TooShort at) = at_place answer.InputTooShort at
input_failure (bytes.OtherFormat at) = at_place answer.InputOfOtherFormat at
input_failure (bytes.NoText at) = at_place answer.InputWithoutText at
input_failure (bytes.NoTree at) = at_place answer.InputWithoutTree at
input_failure (bytes.StoredOtherwise at) = at_place answer.InputStoredOtherwise at

-- the fault of a pattern
abbrev pub pattern_fault : PatternError → Fault
pattern_fault (pattern.BeginsNothing at) = answer.BeginsNothing
pattern_fault (pattern.UnknownFragment at) = answer.UnknownFragment
pattern_fault (pattern.NameTwice at) = answer.NameTwice
pattern_fault (pattern.NeedlessSeparator at) = answer.NeedlessSeparator
pattern_fault (pattern.EmptyRepetition at) = answer.EmptyRepetition
pattern_fault pattern.Memory = answer.Memory

-- the fault of a template, the same as that of a pattern
abbrev pub template_fault : TemplateError → Fault
template_fault (template.BeginsNothing at) = answer.BeginsNothing
template_fault (template.NoOperator at) = answer.BeginsNothing
template_fault (template.NeedlessSeparator at) = answer.NeedlessSeparator
template_fault template.Memory = answer.Memory

-- the fault of an arm
abbrev pub arm_fault : ArmFault → Fault
arm_fault (arm.NoPattern at) = answer.NoPattern
arm_fault (arm.Pattern error) = pattern_fault error
arm_fault (arm.NoArrow at) = answer.NoArrow
arm_fault (arm.NoTemplate at) = answer.NoTemplate
arm_fault (arm.Template error) = template_fault error
arm_fault (arm.NoSemicolon at) = answer.NoSemicolon
arm_fault arm.Memory = answer.Memory

-- trees that are no macro: with the number of the arm
abbrev pub rules_failure : RulesError → Failure
rules_failure error = at_place (arm_fault error.fault) error.arm

-- a template that is not filled
abbrev pub transcribe_fault : TranscribeError → Fault
transcribe_fault (filling.StillRepeats at) = answer.StillRepeats
transcribe_fault (filling.NothingRepeats at) = answer.NothingRepeats
transcribe_fault (filling.LengthsDiffer at) = answer.LengthsDiffer
transcribe_fault (filling.NoRound at) = answer.NoRound
transcribe_fault filling.OverLimit = answer.OverMaxTokens
transcribe_fault (filling.Tree fault) = limit_fault fault

-- a macro that does not expand an input: with the number of the arm
abbrev pub expand_failure : ExpandError → Failure
expand_failure error = at_place (transcribe_fault error.fault) error.arm

-- the fault of a macro of a text, or of a call of one
abbrev pub macro_fault : MacroFault → Fault
macro_fault (found.Definition error) = arm_fault error.fault
macro_fault found.Left = answer.Left
macro_fault found.BuiltIn = answer.BuiltIn
macro_fault found.SeveralDefinitions = answer.SeveralDefinitions
macro_fault found.NotExported = answer.NotExported
macro_fault (found.Captured binding) = answer.Captured
macro_fault found.Conditional = answer.Conditional
macro_fault found.NoMatch = answer.NoMatch
macro_fault (found.Ambiguous _) = answer.Ambiguous
macro_fault (found.Expansion error) = transcribe_fault error.fault
macro_fault found.TooDeep = answer.TooDeep
macro_fault found.OverMaxTokens = answer.OverMaxTokens
macro_fault found.NotWritable = answer.NotWritable
macro_fault found.TooLong = answer.MadeTooLong
macro_fault found.Statements = answer.Statements
macro_fault (found.TooLarge fault) = limit_fault fault

-- want of memory, with the byte at which the call begins that is expanded then
abbrev pub memory_failure : (at : Option ℕ) → Failure
memory_failure None = placeless answer.Memory
memory_failure (Some at) = at_place answer.Memory at

-- a text that cannot be expanded
abbrev pub expand_text_failure : ExpandTextError → Failure
expand_text_failure (expanding.Text fault) = text_failure fault
expand_text_failure (expanding.Macro it) = at_place (macro_fault it.fault) it.at
expand_text_failure (expanding.Memory at) = memory_failure at
