-- The parts so far, and the trees that are left.
use Rattle.tt.specs.Forest.{size}
use Rattle.tt.specs.Iters.{rest_of}
use Rattle.expand_items.proofs.PartsSoFar.{ArePartsSoFar}
use Rattle.expand_items.proofs.part.parts.Given as goal

abbrev pub invariant-parts : goal.invariant-parts
invariant-parts l = ArePartsSoFar l.siblings (rest_of l.fn.trees) (rest_of l.trees) l.parts.items

abbrev pub decreases-parts : goal.decreases-parts
decreases-parts l = size (rest_of l.trees)
