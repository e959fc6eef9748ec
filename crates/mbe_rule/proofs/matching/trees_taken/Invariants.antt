-- What is left agrees exactly if the whole does; the trees taken and those to be taken are those of the whole.
use Rattle.std.proofs.Common.{◌≡◌, ◌↔◌, ◌+◌, ◌*◌, ◌++◌, map, length, reverse}
use Rattle.tt.specs.Iters.{rest_of}
use Rattle.tt.specs.Views.{trees_of}
use Rattle.mbe_rule.specs.Instances.{pattern_of}
use Rattle.mbe_rule.specs.Matching.{Matches, trees_bound}
use Rattle.mbe_rule.proofs.MatchSteps.{AllMatch, trees_left, tokens_left}
use Rattle.mbe_rule.proofs.matching.trees_taken.Given as goal

abbrev pub invariant-loop-pair : goal.invariant-loop-pair
invariant-loop-pair l =
    record {
      agree : Matches (pattern_of (rest_of l.fn.pattern)) (rest_of l.fn.input) ↔ AllMatch (reverse l.pairs.items);
      taken : map trees_of l.taken.items ++ trees_left (reverse l.pairs.items) ≡ trees_bound (pattern_of (rest_of l.fn.pattern)) (rest_of l.fn.input);
    }

abbrev pub decreases-loop-pair : goal.decreases-loop-pair
decreases-loop-pair l = 2 * tokens_left (reverse l.pairs.items) + length l.pairs.items
