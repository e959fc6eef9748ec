-- Each turn decodes one unit.
use Rattle.std.proofs.Common.{◌≡◌, ◌-◌, suc, length}
use Rattle.mbe_grammar.specs.Places.{trees_in}
use Rattle.mbe_grammar.proofs.units.Units.reach.Given as goal

abbrev pub invariant-loop-self : goal.invariant-loop-self
invariant-loop-self l = trees_in l.self ≡ trees_in l.initial.self

abbrev pub decreases-loop-self : goal.decreases-loop-self
decreases-loop-self l = suc l.passed - length l.self.reached.items
