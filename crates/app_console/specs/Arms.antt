-- The answer of the command that expands a macro of several arms, and the state after it.
use Rattle.std.specs.Prelude.{◌≡◌, ◌⊎◌, ℕ, List, ◌++◌, Option, None, Some, codes, decimal}
use Rattle.tt.specs.Forest.{Root}
use Rattle.tt_base.specs.declared.fault.TtFault.TheVariants.{Memory, TooManyTokens}
use Rattle.mbe_rules.specs.Arms.{Arm, Spell}
use Rattle.mbe_rules.specs.Expansions.{IsExpansion, IsExpandError}
use Rattle.mbe_rules.specs.ArmFaults.{IsRulesError}
use Rattle.mbe_rules.specs.declared.error.TemplateError.{TemplateError}
use Rattle.mbe_rules.specs.declared.error.TemplateError.TheVariants as template
use Rattle.mbe_rules.specs.declared.rules_error.ArmFault.{ArmFault}
use Rattle.mbe_rules.specs.declared.rules_error.ArmFault.TheVariants as fault
use Rattle.mbe_rules.specs.declared.rules_error.ExpandError.{ExpandError}
use Rattle.mbe_rules.specs.declared.rules_error.RulesError.{RulesError}
use Rattle.mbe_rules.specs.declared.macro_rules.Expansion.TheVariants as expansion
use Rattle.mbe_pattern.specs.declared.error.PatternError.{PatternError}
use Rattle.mbe_pattern.specs.declared.error.PatternError.TheVariants as pattern
use Rattle.app_console.specs.Answer.{line, ok_line, empty_line, fault_line, no_match_line}
use Rattle.app_console.specs.State.{State, with_tree}
use Rattle.mbe_rules.specs.declared.transcribe_error.TranscribeError.{TranscribeError}
use Rattle.mbe_rules.specs.declared.transcribe_error.TranscribeError.TheVariants as filling

-- the number of a pattern's fault (4 is not used); exhausted memory has none
abbrev pub pattern_number : PatternError → Option ℕ
pattern_number (pattern.BeginsNothing at) = Some 2
pattern_number (pattern.UnknownFragment at) = Some 3
pattern_number (pattern.NameTwice at) = Some 5
pattern_number (pattern.NeedlessSeparator at) = Some 6
pattern_number (pattern.EmptyRepetition at) = Some 7
pattern_number pattern.Memory = None

-- the number of a template's fault, that of the same fault of a pattern; exhausted memory has none
abbrev pub template_number : TemplateError → Option ℕ
template_number (template.BeginsNothing at) = Some 2
template_number (template.NoOperator at) = Some 2
template_number (template.NeedlessSeparator at) = Some 6
template_number template.Memory = None

-- the number of an arm's fault
abbrev pub arm_fault_number : ArmFault → Option ℕ
arm_fault_number (fault.NoPattern at) = Some 1
arm_fault_number (fault.Pattern error) = pattern_number error
arm_fault_number (fault.NoArrow at) = Some 8
arm_fault_number (fault.NoTemplate at) = Some 9
arm_fault_number (fault.Template error) = template_number error
arm_fault_number (fault.NoSemicolon at) = Some 12
arm_fault_number fault.Memory = None

-- `rule`, the number of an arm and that of its fault; if memory for it ran out, the command was refused
abbrev pub arm_line : (arm : ℕ) → (number : Option ℕ) → List ℕ
arm_line arm None = fault_line Memory
arm_line arm (Some number) = line (codes "rule " ++ decimal arm ++ codes " " ++ decimal number)

-- why trees are no macro
abbrev pub rules_line : RulesError → List ℕ
rules_line error = arm_line error.arm (arm_fault_number error.fault)

-- the input is an instance of a pattern in different ways
abbrev pub ambiguous_line : List ℕ
ambiguous_line = line (codes "ambiguous")

-- a repetition of a template has variables with different numbers of rounds, or no round although it needs one
abbrev pub lengths_line : List ℕ
lengths_line = line (codes "lengths")

-- why the template of that arm is not filled
abbrev pub filling_line : (arm : ℕ) → TranscribeError → List ℕ
filling_line arm (filling.StillRepeats at) = arm_line arm (Some 10)
filling_line arm (filling.NothingRepeats at) = arm_line arm (Some 11)
filling_line arm (filling.LengthsDiffer at) = lengths_line
filling_line arm (filling.NoRound at) = lengths_line
filling_line arm filling.OverLimit = fault_line TooManyTokens
filling_line arm (filling.Tree fault) = fault_line fault

-- why the template of an arm is not filled
abbrev pub unfilled_line : ExpandError → List ℕ
unfilled_line error = filling_line error.arm error.fault

-- the tree is the expansion of the input by the macro of these arms
abbrev pub IsMadeByArms : (arms input : Root) → Root → Type 0
IsMadeByArms arms input tree = (spelled : List Arm) × Spell arms.children spelled × IsExpansion spelled 0 0 input.children (expansion.Tree tree)

-- the answer says that the input is an instance of no pattern, or of one in different ways,
-- or why the template of the first such arm is not filled
abbrev pub TellsNoExpansion : List Arm → (input : Root) → (answer : List ℕ) → Type 0
TellsNoExpansion spelled input answer =
    (((at : ℕ) × IsExpansion spelled 0 0 input.children (expansion.NoMatch at)) × (answer ≡ no_match_line))
    ⊎ ((arm : ℕ) × IsExpansion spelled 0 0 input.children (expansion.Ambiguous arm) × (answer ≡ ambiguous_line))
    ⊎ ((error : ExpandError) × IsExpandError spelled 0 input.children error × (answer ≡ unfilled_line error))

-- if the trees are no macro, the answer says why; otherwise it says why the macro does not expand the input
abbrev pub TellsNoneByArms : (arms input : Root) → (answer : List ℕ) → Type 0
TellsNoneByArms arms input answer =
    ((error : RulesError) × IsRulesError arms.children error × (answer ≡ rules_line error))
    ⊎ ((spelled : List Arm) × Spell arms.children spelled × TellsNoExpansion spelled input answer)

-- the expansion of the input by the macro goes to the slot, or the answer says why there is no such tree
abbrev pub ExpandsMacro : State → (arms input : Root) → (to : ℕ) → List ℕ → State → Type 0
ExpandsMacro old arms input to answer new =
    ((tree : Root) × IsMadeByArms arms input tree × (answer ≡ ok_line) × (new ≡ with_tree old to tree))
    ⊎ (TellsNoneByArms arms input answer × (new ≡ old))

-- the arms and the input are the trees of two slots, which may be empty
abbrev pub ExpandsArms : State → (arms input : Option Root) → (to : ℕ) → List ℕ → State → Type 0
ExpandsArms old None input to answer new = (answer ≡ empty_line) × (new ≡ old)
ExpandsArms old (Some arms) None to answer new = (answer ≡ empty_line) × (new ≡ old)
ExpandsArms old (Some arms) (Some input) to answer new = ExpandsMacro old arms input to answer new
