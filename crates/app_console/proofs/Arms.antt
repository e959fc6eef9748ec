-- A step that expands a macro of several arms.
use Rattle.std.proofs.Common.{◌≡◌, inl, ℕ, List, Some, sym, subst}
use Rattle.tt.specs.Forest.{Root}
use Rattle.app_language.specs.declared.command.Command.TheVariants as command
use Rattle.app_console.specs.Answer.{ok_line}
use Rattle.app_console.specs.Arms.{ExpandsArms, ExpandsMacro, IsMadeByArms}
use Rattle.app_console.specs.Machine.{Step, Does}
use Rattle.app_console.specs.State.{State, tree_in, with_tree}

module _ (old new : State) (arms_slot input_slot to : ℕ) (arms input : Root) (answer : List ℕ)
    (at_arms : tree_in old arms_slot ≡ Some arms) (at_input : tree_in old input_slot ≡ Some input) where
  -- A macro whose slots contain these trees.
  by_trees : ExpandsMacro old arms input to answer new → Does old (command.Arms arms_slot input_slot to) answer new
  by_trees expands =
      subst (λ found. ExpandsArms old found (tree_in old input_slot) to answer new) (sym at_arms)
      (subst (λ found. ExpandsArms old (Some arms) found to answer new) (sym at_input) expands)

  -- The expansion goes to its slot.
  pub made_comes : (tree : Root) → IsMadeByArms arms input tree → answer ≡ ok_line → new ≡ with_tree old to tree
      → Step old (command.Arms arms_slot input_slot to) answer new
  made_comes tree made reported put = inl (by_trees (inl (tree, made, reported, put)))
