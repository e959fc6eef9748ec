-- The events so far, with those ahead, are those of the trees.
use Rattle.tt.specs.Views.{trees_of}
use Rattle.mbe_grammar.specs.Derivations.{Derives, Refuses, whole}
use Rattle.mbe_grammar.specs.Deriving.{GivesAhead, StopsAhead, steps_ahead}
use Rattle.mbe_grammar.proofs.Ahead.{Collects}
use Rattle.mbe_grammar.proofs.derivation.derive.Given as goal

abbrev pub invariant-loop-derivation : goal.invariant-loop-derivation
invariant-loop-derivation l =
    Collects (GivesAhead l.derivation) (StopsAhead l.derivation) (Derives l.table.rules.now l.at (trees_of l.fn.trees)) (Refuses l.table.rules.now (whole l.at (trees_of l.fn.trees))) l.events.items

abbrev pub decreases-loop-derivation : goal.decreases-loop-derivation
decreases-loop-derivation l = steps_ahead l.derivation
