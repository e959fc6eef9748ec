-- What is wrong with the arms of a macro.
use Rattle.std.specs.Prelude.{◌≡◌, ◌-◌, ℕ, zero, suc, false, Option, None, Some, option_map, if◌then◌else◌}
use Rattle.tt.specs.Forest.{Forest, end, leaf, node, size}
use Rattle.tt.specs.Gluing.{after_trees}
use Rattle.tt.specs.Moves.{after_tree}
use Rattle.tt.specs.Siblings.{is_end}
use Rattle.mbe_pattern.specs.declared.error.PatternError.{PatternError}
use Rattle.mbe_pattern.specs.declared.error.PatternError.TheVariants as pattern
use Rattle.mbe_pattern.specs.Faults.{pattern_fault}
use Rattle.mbe_rules.specs.declared.error.TemplateError.{TemplateError}
use Rattle.mbe_rules.specs.declared.error.TemplateError.TheVariants as template
use Rattle.mbe_rules.specs.declared.rules_error.ArmFault.{ArmFault}
use Rattle.mbe_rules.specs.declared.rules_error.ArmFault.TheVariants as fault
use Rattle.mbe_rules.specs.declared.rules_error.RulesError.{RulesError}
use Rattle.mbe_rules.specs.Arrows.{is_arrow_in, is_semicolon_in}
use Rattle.mbe_rules.specs.SpellingFaults.{spelling_fault}

-- a pattern's fault, as a fault of its arm
abbrev pub of_pattern : PatternError → ArmFault
of_pattern pattern.Memory = fault.Memory
of_pattern other = fault.Pattern other

-- a template's fault, as a fault of its arm
abbrev pub of_template : TemplateError → ArmFault
of_template template.Memory = fault.Memory
of_template other = fault.Template other

-- the first, or otherwise the other
abbrev pub or_else : Option ArmFault → Option ArmFault → Option ArmFault
or_else None other = other
or_else (Some it) other = Some it

-- the flat place before these trees, given the place after the last of them
abbrev pub place : (until : ℕ) → Forest → ℕ
place until trees = until - size trees

-- what is wrong in the place of a template
abbrev pub template_fault_in : (until : ℕ) → Forest → Option ArmFault
template_fault_in until end = Some (fault.NoTemplate (place until end))
template_fault_in until (leaf it rest) = Some (fault.NoTemplate (place until (leaf it rest)))
template_fault_in until (node delimiter children rest) = option_map of_template (spelling_fault children)

-- what is wrong after a pattern
abbrev pub arrow_fault : (until : ℕ) → Forest → Option ArmFault
arrow_fault until between =
    if is_arrow_in between then template_fault_in until (after_trees 2 between) else Some (fault.NoArrow (place until between))

-- what is wrong after an arm
abbrev pub semicolon_fault : (until : ℕ) → Forest → Option ArmFault
semicolon_fault until rest =
    if is_end rest then None else (if is_semicolon_in rest then None else Some (fault.NoSemicolon (place until rest)))

-- what follows the arm that the trees begin with
abbrev pub behind_arm : Forest → Forest
behind_arm trees = after_tree (after_trees 2 (after_tree trees))

-- what is wrong with the arm that the trees should begin with, up to the end of its template
abbrev pub body_fault : (until : ℕ) → Forest → Option ArmFault
body_fault until end = Some (fault.NoPattern (place until end))
body_fault until (leaf it rest) = Some (fault.NoPattern (place until (leaf it rest)))
body_fault until (node delimiter children between) = or_else (option_map of_pattern (pattern_fault children)) (arrow_fault until between)

-- the arm's first fault, in reading order
abbrev pub arm_fault : (until : ℕ) → Forest → Option ArmFault
arm_fault until trees = or_else (body_fault until trees) (semicolon_fault until (behind_arm trees))

-- the arm has this fault: memory ran out, or it is the first fault
abbrev pub IsArmFault : Option ArmFault → ArmFault → Type 0
IsArmFault first fault.Memory = Unit {0}
IsArmFault first other = first ≡ Some other

-- the earlier arms are sound, and the arm of that number has this fault
abbrev pub IsFaultAt : (until : ℕ) → Forest → (arm : ℕ) → ArmFault → Type 0
IsFaultAt until trees zero other = IsArmFault (arm_fault until trees) other
IsFaultAt until trees (suc arm) other =
    (arm_fault until trees ≡ None) × (is_end (after_tree (behind_arm trees)) ≡ false) × IsFaultAt until (after_tree (behind_arm trees)) arm other

-- why trees are no macro
abbrev pub IsRulesError : Forest → RulesError → Type 0
IsRulesError trees error = IsFaultAt (size trees) trees error.arm error.fault
