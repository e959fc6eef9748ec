-- The first fault is still to come.
use Rattle.std.proofs.Common.{◌≡◌, map, length}
use Rattle.tt.specs.Views.{trees_of}
use Rattle.mbe_rule.specs.DollarsLeft.{dollars_left}
use Rattle.mbe_rule.specs.Faults.{fault_of_uses, template_fault}
use Rattle.mbe_rule.specs.Variables.{name_in}
use Rattle.mbe_rule.proofs.names.check_template.Given as goal

abbrev pub invariant-loop-dollars : goal.invariant-loop-dollars
invariant-loop-dollars l = fault_of_uses l.names.keys (map name_in (dollars_left l.dollars)) ≡ template_fault l.names.keys (trees_of l.fn.template)

abbrev pub decreases-loop-dollars : goal.decreases-loop-dollars
decreases-loop-dollars l = length (dollars_left l.dollars)
