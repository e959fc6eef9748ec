use Rattle.std.proofs.Common.{◌≡◌, ◌++◌, ◌∷◌, map}
use Rattle.indexmap.specs.IndexMap.{get}
use Rattle.tt_base.specs.declared.token_tree.TokenTree.TheVariants as token
use Rattle.tt_base.specs.Forest.{flat}
use Rattle.tt_tables.specs.Uses.{same_part}
use Rattle.tt_tables.specs.AstIds.{respanned_token}
use Rattle.tt_view.specs.NewIds.{span_with}
use Rattle.tt_view.specs.SubtreeViews.{flat_rest}
use Rattle.tt_view.specs.Views.{trees_of}
use Rattle.tt_view.proofs.top_subtree.ast_ids.new_list.Given as goal

-- The list, and then the tokens to come with their new ids, are all tokens.
abbrev pub invariant-loop-token : goal.invariant-loop-token
invariant-loop-token l =
    (goal.iterator-loop-token).can_next l.token-iterator
    × (goal.iterator-loop-token).is_finite l.token-iterator
    × (l.list.items ++ map (respanned_token (span_with (get same_part l.ids))) (flat (flat_rest l.token-iterator))
    ≡ token.Subtree l.fn.top ∷ map (respanned_token (span_with (get same_part l.ids))) (flat (trees_of l.fn.below)))
