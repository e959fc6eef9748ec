-- What is noted, and then the mentions among the tokens that are left, are all.
use Rattle.tt.specs.Forest.{flat}
use Rattle.tt.specs.SubtreeViews.{flat_rest}
use Rattle.tt.specs.Views.{trees_of}
use Rattle.expand_hygiene.specs.Given.{IsPartGiven}
use Rattle.expand_hygiene.specs.Mentions.{mentions_among, mentions_in}
use Rattle.expand_hygiene.proofs.given.Given.of.Given as goal

abbrev pub invariant-loop-token : goal.invariant-loop-token
invariant-loop-token l =
    (goal.iterator-loop-token).can_next l.token-iterator
    × (goal.iterator-loop-token).is_finite l.token-iterator
    × IsPartGiven l.given (mentions_among l.is_behind_quote (flat (flat_rest l.token-iterator))) (mentions_in (trees_of l.fn.input))
