-- How a rule expands inputs, and why it does not.
use Rattle.std.specs.Prelude.{◌≡◌, ◌⊎◌, Option, None, Some}
use Rattle.tt.specs.Forest.{Forest, Root}
use Rattle.test_contracts.specs.declared.macros.MacroFault.{MacroFault}
use Rattle.test_contracts.specs.declared.macros.MacroFault.TheVariants as macro
use Rattle.mbe_rule.specs.declared.fault.RuleFault.TheVariants.{Memory}
use Rattle.mbe_rule.specs.Expansions.{IsNoInstance, IsExpansion, IsExpandFault}
use Rattle.mbe_rule.specs.Faults.{rule_fault}

-- the tree that an input expands to, or `None` if it is no instance
abbrev pub IsExpanded : (pattern template : Root) → (input : Forest) → Option Root → Type 0
IsExpanded pattern template input None = IsNoInstance pattern.children input
IsExpanded pattern template input (Some tree) = IsExpansion pattern.children template input tree

-- why two inputs are not expanded: there is no such rule, or one of them is refused
abbrev pub IsMacroFault : (pattern template : Root) → (left right : Forest) → MacroFault → Type 0
IsMacroFault pattern template left right (macro.Rule fault) = (fault ≡ Memory) ⊎ (rule_fault pattern.children template.children ≡ Some fault)
IsMacroFault pattern template left right (macro.Expansion fault) =
    IsExpandFault pattern.children template left fault ⊎ IsExpandFault pattern.children template right fault
