-- The words so far, and those of the tokens to come, are all words.
use Rattle.std.proofs.Common.{◌≡◌, ◌++◌}
use Rattle.tt.specs.Forest.{flat}
use Rattle.tt.specs.SubtreeViews.{flat_rest}
use Rattle.tt.specs.Views.{trees_of}
use Rattle.expand_unused.specs.Parts.{words_among, words_in}
use Rattle.expand_unused.proofs.words.words_in.Given as goal

abbrev pub invariant-loop-token : goal.invariant-loop-token
invariant-loop-token l =
    (goal.iterator-loop-token).can_next l.token-iterator
    × (goal.iterator-loop-token).is_finite l.token-iterator
    × (l.words.items ++ words_among (flat (flat_rest l.token-iterator)) ≡ words_in (trees_of l.fn.trees))
