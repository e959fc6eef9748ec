use Rattle.std.proofs.Common.{◌≡◌, ◌++◌}
use Rattle.tt_base.specs.Forest.{flat}
use Rattle.tt_view.specs.SubtreeViews.{flat_rest}
use Rattle.tt_view.specs.Views.{trees_of}
use Rattle.tt_view.proofs.top_subtree.edits.flat_list.Given as goal

-- The list, and then the tokens to come, are all tokens.
abbrev pub invariant-loop-token : goal.invariant-loop-token
invariant-loop-token l =
    (goal.iterator-loop-token).can_next l.token-iterator
    × (goal.iterator-loop-token).is_finite l.token-iterator
    × (l.list.items ++ flat (flat_rest l.token-iterator) ≡ flat (trees_of l.fn.trees))
