-- What is wrong with a rule.
use Rattle.std.specs.Prelude.{ℕ, List, [], ◌∷◌, ◌++◌, map, Option, None, Some, if◌then◌else◌}
use Rattle.std.specs.List.{list_any}
use Rattle.tt.specs.Forest.{Forest}
use Rattle.mbe_rule.specs.declared.fault.RuleFault.{RuleFault}
use Rattle.mbe_rule.specs.declared.fault.RuleFault.TheVariants.{BadPattern, BadTemplate, DuplicateName, UnknownName, Memory}
use Rattle.mbe_rule.specs.declared.variable.Name.{Name}
use Rattle.mbe_rule.specs.declared.variable.Variable.{Variable}
use Rattle.mbe_rule.specs.Variables.{same_name, name_in, variable_in, behind_dollars, names_in}

-- the number of a fault
abbrev pub number_of : RuleFault → ℕ
number_of BadPattern = 1
number_of BadTemplate = 2
number_of DuplicateName = 3
number_of UnknownName = 4
number_of Memory = 5

-- the first fault of what follows each `$` of a pattern, after variables of these names
abbrev pub fault_of_variables : (before : List Name) → List (Option Variable) → Option RuleFault
fault_of_variables before [] = None
fault_of_variables before (None ∷ others) = Some BadPattern
fault_of_variables before (Some it ∷ others) =
    if list_any (same_name it.name) before then Some DuplicateName else fault_of_variables (before ++ it.name ∷ []) others

-- the first fault of what follows each `$` of a template, if the variables have these names
abbrev pub fault_of_uses : (names : List Name) → List (Option Name) → Option RuleFault
fault_of_uses names [] = None
fault_of_uses names (None ∷ others) = Some BadTemplate
fault_of_uses names (Some it ∷ others) = if list_any (same_name it) names then fault_of_uses names others else Some UnknownName

-- the first fault of a pattern
abbrev pub pattern_fault : Forest → Option RuleFault
pattern_fault pattern = fault_of_variables [] (map variable_in (behind_dollars pattern))

-- the first fault of a template, if the variables have these names
abbrev pub template_fault : (names : List Name) → Forest → Option RuleFault
template_fault names template = fault_of_uses names (map name_in (behind_dollars template))

-- the first, or otherwise the other
abbrev pub or_else : Option RuleFault → Option RuleFault → Option RuleFault
or_else None other = other
or_else (Some fault) other = Some fault

-- the first fault of a rule: the pattern is judged before the template
abbrev pub rule_fault : (pattern template : Forest) → Option RuleFault
rule_fault pattern template = or_else (pattern_fault pattern) (template_fault (names_in pattern) template)
