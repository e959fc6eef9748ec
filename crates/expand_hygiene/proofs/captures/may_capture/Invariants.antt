-- The tokens so far can capture nothing.
use Rattle.std.proofs.Common.{List}
use Rattle.tt.specs.Forest.{flat}
use Rattle.tt.specs.SubtreeViews.{flat_rest}
use Rattle.tt.specs.Views.{trees_of}
use Rattle.expand_hygiene.specs.declared.mention.Mention.{Mention}
use Rattle.expand_hygiene.specs.Given.{IsGiven}
use Rattle.expand_hygiene.specs.Walks.{AreUncaptured}
use Rattle.expand_hygiene.proofs.captures.may_capture.Given as goal

abbrev pub invariant-loop-token : goal.invariant-loop-token
invariant-loop-token l =
    (goal.iterator-loop-token).can_next l.token-iterator
    × (goal.iterator-loop-token).is_finite l.token-iterator
    × ((input : List Mention) → IsGiven l.given input → AreUncaptured input (flat (flat_rest l.token-iterator)) → AreUncaptured input (flat (trees_of l.fn.trees)))
