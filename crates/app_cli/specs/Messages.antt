-- The messages of faults of macros.
use Rattle.std.specs.Prelude.{ℕ, List, [], ◌++◌, codes, decimal}
use Rattle.expand_text.specs.Expecting.{rule_number}
use Rattle.expand_text.specs.declared.fault.MacroFault.{MacroFault}
use Rattle.expand_text.specs.declared.fault.MacroFault.TheVariants as wrong
use Rattle.mbe_pattern.specs.declared.error.PatternError.{PatternError}
use Rattle.mbe_pattern.specs.declared.error.PatternError.TheVariants as pattern
use Rattle.mbe_rules.specs.declared.error.TemplateError.{TemplateError}
use Rattle.mbe_rules.specs.declared.error.TemplateError.TheVariants as template
use Rattle.mbe_rules.specs.declared.transcribe_error.TranscribeError.{TranscribeError}
use Rattle.mbe_rules.specs.declared.transcribe_error.TranscribeError.TheVariants as filling
use Rattle.mbe_rules.specs.declared.rules_error.ArmFault.{ArmFault}
use Rattle.mbe_rules.specs.declared.rules_error.ArmFault.TheVariants as rule
use Rattle.mbe_rules.specs.declared.rules_error.RulesError.{RulesError}
use Rattle.tt.specs.Fault.{fault_text}
use Rattle.tt.specs.Types.TtFault.{TtFault}

-- a name between words
abbrev pub about : (before name behind : List ℕ) → List ℕ
about before name behind = before ++ codes "`" ++ name ++ codes "`" ++ behind

-- a rule and a name before words
abbrev pub about_rule : (arm : ℕ) (name behind : List ℕ) → List ℕ
about_rule arm name behind = about (codes "rule " ++ decimal (rule_number arm) ++ codes " of ") name behind

-- the fault of a pattern
abbrev pub pattern_message : PatternError → List ℕ
pattern_message (pattern.BeginsNothing at) = codes "this `$` begins no variable and no repetition"
pattern_message (pattern.UnknownFragment at) = codes "this variable names an unknown fragment"
pattern_message (pattern.NameTwice at) = codes "an earlier variable has the same name"
pattern_message (pattern.NeedlessSeparator at) = codes "a `?` repetition takes no separator"
pattern_message (pattern.EmptyRepetition at) = codes "this repetition matches empty input"
pattern_message pattern.Memory = codes "out of memory"

-- the fault of a template
abbrev pub template_message : TemplateError → List ℕ
template_message (template.BeginsNothing at) = codes "expected a name, `(` or `{` after `$`"
template_message (template.NoOperator at) = codes "expected `*`, `+` or `?`"
template_message (template.NeedlessSeparator at) = codes "a `?` repetition takes no separator"
template_message template.Memory = codes "out of memory"

-- the fault of a rule
abbrev pub rule_message : (name : List ℕ) (arm : ℕ) → ArmFault → List ℕ
rule_message name arm (rule.NoPattern at) = about_rule arm name (codes " has no pattern")
rule_message name arm (rule.Pattern error) = pattern_message error
rule_message name arm (rule.NoArrow at) = about_rule arm name (codes " has no `=>` after its pattern")
rule_message name arm (rule.NoTemplate at) = about_rule arm name (codes " has no template")
rule_message name arm (rule.Template error) = template_message error
rule_message name arm (rule.NoSemicolon at) = about_rule arm name (codes " has no `;` after it")
rule_message name arm rule.Memory = codes "out of memory"

-- the fault of a definition of that name
abbrev pub definition_message : (name : List ℕ) → RulesError → List ℕ
definition_message name error = rule_message name error.arm error.fault

-- why a rule of that name writes nothing
abbrev pub transcribe_message : (name : List ℕ) (arm : ℕ) → TranscribeError → List ℕ
transcribe_message name arm (filling.StillRepeats at) = about_rule arm name (codes ": this variable is still repeating at this depth")
transcribe_message name arm (filling.NothingRepeats at) = about_rule arm name (codes ": this repetition contains no variable that repeats")
transcribe_message name arm (filling.LengthsDiffer at) = about_rule arm name (codes " repeats variables together that have different numbers of rounds")
transcribe_message name arm (filling.NoRound at) = about_rule arm name (codes " needs at least one round here")
transcribe_message name arm filling.OverLimit = about_rule arm name (codes " writes too many tokens")
transcribe_message name arm (filling.Tree fault) = about_rule arm name (codes " writes too much: " ++ fault_text fault)

-- the limit of trees that the macro of that name or its expansion exceeds
abbrev pub size_message : (name : List ℕ) → TtFault → List ℕ
size_message name fault = about [] name (codes " is too large: " ++ fault_text fault)

-- the message of a fault of the macro of that name, or of a call of it
abbrev pub message : (name : List ℕ) → MacroFault → List ℕ
message name (wrong.Definition error) = definition_message name error
message name wrong.Left = about (codes "this call of ") name (codes " is left as it is")
message name wrong.BuiltIn = about (codes "this call of ") name (codes " is left as it is: the compiler expands it itself")
message name wrong.SeveralDefinitions =
    about (codes "this call of ") name (codes " is left as it is: which of its definitions holds depends on `#[cfg(..)]`")
message name wrong.NotExported = about (codes "this call of ") name (codes " is left as it is: no macro of this name has `#[macro_export]`")
message name (wrong.Captured binding) = about [] name (codes " binds this name too, and the expansion does not keep the two apart")
message name wrong.Conditional =
    about (codes "this call of ") name (codes " is left as it is: its attributes cannot apply to its expansion")
message name wrong.Statements = about (codes "the expansion of ") name (codes " is statements, but an expression is wanted here")
message name wrong.NoMatch = about (codes "no rule of ") name (codes " matches this")
message name (wrong.Ambiguous arm) = about_rule arm name (codes " matches this in two ways")
message name (wrong.Expansion error) = transcribe_message name error.arm error.fault
message name wrong.TooDeep = about (codes "recursion limit reached while expanding ") name []
message name wrong.OverMaxTokens = about (codes "too many tokens are written while expanding ") name []
message name wrong.NotWritable = about (codes "the expansion of ") name (codes " cannot be written: this would read back as something else")
message name wrong.TooLong = about (codes "the expansion of ") name (codes " has 4294967295 bytes or more")
message name (wrong.TooLarge fault) = size_message name fault
