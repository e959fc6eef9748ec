-- So far all are there.
use Rattle.tt.specs.Iters.{rest_of}
use Rattle.tt.specs.Views.{trees_of}
use Rattle.mbe_matcher.proofs.LeafSteps.{AreAlikeSoFar}
use Rattle.mbe_program.proofs.moves.are_like.Given as goal

abbrev pub invariant-loop-leaf : goal.invariant-loop-leaf
invariant-loop-leaf l = AreAlikeSoFar l.leaves (trees_of l.fn.trees) l.leaf-index (rest_of l.rest)
