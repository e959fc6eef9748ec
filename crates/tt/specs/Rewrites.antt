-- The answers of a callback, and a rewriting by these answers.
use Rattle.std.specs.Prelude.{◌≡◌, ◌⊎◌, List, map, Some, None}
use Rattle.tt_base.specs.declared.fault.TtFault.{TtFault}
use Rattle.tt_base.specs.declared.fault.TtFault.TheVariants.{Memory, NotOneSubtree}
use Rattle.tt_base.specs.declared.token_tree.TokenTree.{TokenTree}
use Rattle.tt_base.specs.Asked.{AsksAll}
use Rattle.tt_base.specs.Forest.{Forest, Root, only}
use Rattle.tt_base.specs.OneRoot.{one_root}
use Rattle.tt_base.specs.Rewriting.{Action, keep, replace, rewrite, shown}
use Rattle.tt_view.specs.TreeFault.{IsTreeFault}
use Rattle.tt_view.specs.Views.{trees_of}
use Rattle.tt.specs.declared.transform.TransformTtAction.{TransformTtAction}
use Rattle.tt.specs.declared.transform.TransformTtAction.TheVariants.{Keep, ReplaceWith}

-- the action of an answer
abbrev pub action_of : TransformTtAction → Action
action_of Keep = keep
action_of (ReplaceWith view) = replace (trees_of view)

-- the callback was called for the tokens that its answers show, once each and in order, and these answers rewrote the trees
pub record Rewrites {F : Type 0} (call : F → TokenTree → TransformTtAction → F → Type 0) (first : F) (trees result : Forest) : Type 0 where
  pub answers : List TransformTtAction
  pub last : F
  pub asked : AsksAll call first (shown trees (map action_of answers)) answers last
  pub gives : result ≡ (rewrite trees (map action_of answers)).0

-- why the trees make no stored tree: they are not one node, or that node exceeds a limit
abbrev pub IsResultFault : Forest → TtFault → Type 0
IsResultFault trees NotOneSubtree = one_root trees ≡ None
IsResultFault trees fault = (root : Root) × (one_root trees ≡ Some root) × IsTreeFault root fault

-- why a tree is not rewritten: memory runs out, or the callback was called for all tokens, and the result makes no stored tree
abbrev pub IsRewriteFault : {F : Type 0} → (F → TokenTree → TransformTtAction → F → Type 0) → F → Root → TtFault → Type 0
IsRewriteFault call first root fault = (fault ≡ Memory) ⊎ ((result : Forest) × Rewrites call first (only root) result × IsResultFault result fault)
