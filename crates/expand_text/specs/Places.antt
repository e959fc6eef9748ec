-- Byte places in a text.
use Rattle.std.specs.Prelude.{ℕ, ◌*◌, Option, None, Some, slice_get}
use Rattle.tt.specs.Forest.{Forest, end, leaf, node, flat}
use Rattle.tt.specs.Gluing.{after_trees}
use Rattle.tt.specs.Span.{start_of}
use Rattle.tt.specs.Token.{first_span}
use Rattle.tt.specs.Types.TokenTree.{TokenTree}
use Rattle.mbe_rules.specs.declared.error.TemplateError.{TemplateError}
use Rattle.mbe_rules.specs.declared.error.TemplateError.TheVariants as template
use Rattle.mbe_rules.specs.declared.rules_error.ArmFault.{ArmFault}
use Rattle.mbe_rules.specs.declared.rules_error.ArmFault.TheVariants as fault
use Rattle.mbe_rules.specs.declared.rules_error.RulesError.{RulesError}
use Rattle.mbe_pattern.specs.declared.error.PatternError.{PatternError}
use Rattle.mbe_pattern.specs.declared.error.PatternError.TheVariants as pattern
use Rattle.mbe_rules.specs.declared.rules_error.ExpandError.{ExpandError}
use Rattle.mbe_rules.specs.declared.transcribe_error.TranscribeError.{TranscribeError}
use Rattle.mbe_rules.specs.declared.transcribe_error.TranscribeError.TheVariants as filling

-- the byte at which a token begins, or else that one
abbrev pub token_byte : Option TokenTree → (behind : ℕ) → ℕ
token_byte None behind = behind
token_byte (Some it) behind = start_of (first_span it).range

-- the byte at which the token of a flat place among trees begins, or else that one
abbrev pub byte_at : Forest → (place : ℕ) → (behind : ℕ) → ℕ
byte_at trees place behind = token_byte (slice_get (flat trees) place) behind

-- the same in the first subtree, or the byte at which it closes; or that one, if the first tree is no subtree
abbrev pub byte_within : Forest → (place : ℕ) → (behind : ℕ) → ℕ
byte_within end place behind = behind
byte_within (leaf it rest) place behind = behind
byte_within (node delimiter children rest) place behind = byte_at children place (start_of delimiter.close.range)

-- the flat place of a pattern's fault
abbrev pub pattern_place : PatternError → ℕ
pattern_place (pattern.BeginsNothing at) = at
pattern_place (pattern.UnknownFragment at) = at
pattern_place (pattern.NameTwice at) = at
pattern_place (pattern.NeedlessSeparator at) = at
pattern_place (pattern.EmptyRepetition at) = at
pattern_place pattern.Memory = 0

-- the flat place of a template's fault
abbrev pub spelling_place : TemplateError → ℕ
spelling_place (template.BeginsNothing at) = at
spelling_place (template.NoOperator at) = at
spelling_place (template.NeedlessSeparator at) = at
spelling_place template.Memory = 0

-- the flat place of a fault of filling, if it has one
abbrev pub fault_place : TranscribeError → ℕ
fault_place (filling.StillRepeats at) = at
fault_place (filling.NothingRepeats at) = at
fault_place (filling.LengthsDiffer at) = at
fault_place (filling.NoRound at) = at
fault_place filling.OverLimit = 0
fault_place (filling.Tree why) = 0

-- an arm is five trees with the `;` after it: a pattern, `=`, `>`, a template and `;`
abbrev pub arm_len : ℕ
arm_len = 5

-- three of them precede the template
abbrev pub before_template : ℕ
before_template = 3

-- the byte at which the fault of an arm shows, which is the first of the arms that are left; all arms end at that byte
abbrev pub fault_byte : ArmFault → (arms left : Forest) → (behind : ℕ) → ℕ
fault_byte (fault.NoPattern at) arms left behind = byte_at arms at behind
fault_byte (fault.NoArrow at) arms left behind = byte_at arms at behind
fault_byte (fault.NoTemplate at) arms left behind = byte_at arms at behind
fault_byte (fault.NoSemicolon at) arms left behind = byte_at arms at behind
fault_byte (fault.Pattern why) arms left behind = byte_within left (pattern_place why) behind
fault_byte (fault.Template why) arms left behind = byte_within (after_trees before_template left) (spelling_place why) behind
fault_byte fault.Memory arms left behind = behind

-- the byte at which the fault of a definition shows, which has these arms, and whose arms end at that byte
abbrev pub definition_byte : (arms : Forest) → RulesError → (behind : ℕ) → ℕ
definition_byte arms why behind = fault_byte why.fault arms (after_trees (why.arm * arm_len) arms) behind

-- the byte of a fault of filling in the template of its arm, which is one of these arms; all arms end at that byte
abbrev pub template_byte : (arms : Forest) → ExpandError → (behind : ℕ) → ℕ
template_byte arms why behind = byte_within (after_trees before_template (after_trees (why.arm * arm_len) arms)) (fault_place why.fault) behind
