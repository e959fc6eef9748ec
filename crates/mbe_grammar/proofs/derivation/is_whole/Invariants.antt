-- What is ahead shows what was ahead at first.
use Rattle.mbe_grammar.specs.Deriving.{GivesAhead, StopsAhead, steps_ahead}
use Rattle.mbe_grammar.proofs.Ahead.{Drops}
use Rattle.mbe_grammar.proofs.derivation.is_whole.Given as goal

abbrev pub invariant-loop-derivation : goal.invariant-loop-derivation
invariant-loop-derivation l = Drops (GivesAhead l.derivation) (StopsAhead l.derivation) (GivesAhead l.initial.derivation) (StopsAhead l.initial.derivation)

abbrev pub decreases-loop-derivation : goal.decreases-loop-derivation
decreases-loop-derivation l = steps_ahead l.derivation
