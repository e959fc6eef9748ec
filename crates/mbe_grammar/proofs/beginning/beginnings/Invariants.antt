-- What was found so far, with what is found ahead, is what the trees have.
use Rattle.std.specs.Prelude.{map}
use Rattle.mbe_grammar.specs.Beginnings.{beginning_of, cursor_of, first_cursor}
use Rattle.tt.specs.Views.{trees_of}
use Rattle.mbe_grammar.specs.Deriving.{GivesAhead, StopsAhead, steps_ahead}
use Rattle.mbe_grammar.proofs.Ahead.{Finds}
use Rattle.mbe_grammar.proofs.beginning.beginnings.Given as goal

abbrev pub invariant-loop-found : goal.invariant-loop-found
invariant-loop-found l =
    Finds l.fn.wanted (GivesAhead l.derivation) (StopsAhead l.derivation) (GivesAhead l.initial.derivation) (StopsAhead l.initial.derivation)
    (first_cursor (trees_of l.fn.trees)) (cursor_of l.cursor) (map beginning_of l.found.items)

abbrev pub decreases-loop-found : goal.decreases-loop-found
decreases-loop-found l = steps_ahead l.derivation
