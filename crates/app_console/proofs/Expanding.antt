-- A step that expands a rule.
use Rattle.std.proofs.Common.{◌≡◌, inl, ℕ, List, Some, sym, subst}
use Rattle.tt.specs.Forest.{Root}
use Rattle.app_language.specs.declared.command.Command.TheVariants as command
use Rattle.app_console.specs.Answer.{ok_line}
use Rattle.app_console.specs.Expanding.{Expands, ExpandsRule, IsMadeByRule}
use Rattle.app_console.specs.Machine.{Step, Does}
use Rattle.app_console.specs.State.{State, tree_in, with_tree}

module _ (old new : State) (pattern_slot template_slot input_slot to : ℕ) (pattern template input : Root) (answer : List ℕ)
    (at_pattern : tree_in old pattern_slot ≡ Some pattern) (at_template : tree_in old template_slot ≡ Some template) (at_input : tree_in old input_slot ≡ Some input) where
  -- A rule whose slots contain these trees.
  by_trees : ExpandsRule old pattern template input to answer new → Does old (command.Expand pattern_slot template_slot input_slot to) answer new
  by_trees expands =
      subst (λ found. Expands old found (tree_in old template_slot) (tree_in old input_slot) to answer new) (sym at_pattern)
      (subst (λ found. Expands old (Some pattern) found (tree_in old input_slot) to answer new) (sym at_template)
      (subst (λ found. Expands old (Some pattern) (Some template) found to answer new) (sym at_input) expands))

  -- The expansion goes to its slot.
  pub made_comes : (tree : Root) → IsMadeByRule pattern template input tree → answer ≡ ok_line → new ≡ with_tree old to tree
      → Step old (command.Expand pattern_slot template_slot input_slot to) answer new
  made_comes tree made reported put = inl (by_trees (inl (tree, made, reported, put)))
