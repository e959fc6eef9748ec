-- The answer of the command that expands a rule, and the state after it.
use Rattle.std.specs.Prelude.{◌≡◌, ◌⊎◌, ℕ, List, Option, None, Some}
use Rattle.tt.specs.Forest.{Root}
use Rattle.tt.specs.Stored.{IsWithinLimits}
use Rattle.tt_base.specs.declared.fault.TtFault.{TtFault}
use Rattle.mbe_rule.specs.declared.fault.RuleFault.{RuleFault}
use Rattle.mbe_rule.specs.Expansions.{IsNoInstance, IsExpansion, IsExpandFault}
use Rattle.mbe_rule.specs.Faults.{rule_fault}
use Rattle.app_console.specs.Answer.{ok_line, empty_line, fault_line, no_match_line, rule_line}
use Rattle.app_console.specs.State.{State, with_tree}

-- the tree is the expansion of the input by the rule
abbrev pub IsMadeByRule : (pattern template input : Root) → Root → Type 0
IsMadeByRule pattern template input tree =
    (rule_fault pattern.children template.children ≡ None) × IsExpansion pattern.children template input.children tree × IsWithinLimits tree

-- if the rule has a fault, the answer says that; otherwise that the input is no instance, or why it is not expanded
abbrev pub TellsNoTree : (pattern template input : Root) → Option RuleFault → (answer : List ℕ) → Type 0
TellsNoTree pattern template input (Some fault) answer = answer ≡ rule_line fault
TellsNoTree pattern template input None answer =
    (IsNoInstance pattern.children input.children × (answer ≡ no_match_line))
    ⊎ ((fault : TtFault) × IsExpandFault pattern.children template input.children fault × (answer ≡ fault_line fault))

-- the expansion of the input by the rule goes to the slot, or the answer says why there is no such tree
abbrev pub ExpandsRule : State → (pattern template input : Root) → (to : ℕ) → List ℕ → State → Type 0
ExpandsRule old pattern template input to answer new =
    ((tree : Root) × IsMadeByRule pattern template input tree × (answer ≡ ok_line) × (new ≡ with_tree old to tree))
    ⊎ (TellsNoTree pattern template input (rule_fault pattern.children template.children) answer × (new ≡ old))

-- the pattern, the template and the input are the trees of three slots, which may be empty
abbrev pub Expands : State → (pattern template input : Option Root) → (to : ℕ) → List ℕ → State → Type 0
Expands old None template input to answer new = (answer ≡ empty_line) × (new ≡ old)
Expands old (Some pattern) None input to answer new = (answer ≡ empty_line) × (new ≡ old)
Expands old (Some pattern) (Some template) None to answer new = (answer ≡ empty_line) × (new ≡ old)
Expands old (Some pattern) (Some template) (Some input) to answer new = ExpandsRule old pattern template input to answer new
