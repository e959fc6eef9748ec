-- The tokens held, and then the tokens to come, are all of them; the old ones are at the front.
use Rattle.std.proofs.Common.{◌≡◌, ◌++◌, ◌≤◌, length, map, take}
use Rattle.tt_base.specs.Forest.{flat}
use Rattle.tt_tables.specs.Held.{whole}
use Rattle.tt_view.specs.SubtreeViews.{flat_rest}
use Rattle.tt_view.specs.Views.{trees_of}
use Rattle.tt.proofs.builder.tokens.push_all.Given as goal

abbrev pub invariant-loop-token : goal.invariant-loop-token
invariant-loop-token l =
    (goal.iterator-loop-token).can_next l.token-iterator
    × (goal.iterator-loop-token).is_finite l.token-iterator
    × (l.held ++ map whole (flat (flat_rest l.token-iterator)) ≡ l.fn.held ++ map whole (flat (trees_of l.fn.trees)))
    × (take (length l.fn.held) l.held ≡ l.fn.held)
    × (length l.fn.held ≤ length l.held)
