-- The names so far, and those to come; the first fault is still to come.
use Rattle.std.proofs.Common.{◌≡◌, ◌++◌, map, length}
use Rattle.tt.specs.Views.{trees_of}
use Rattle.mbe_rule.specs.DollarsLeft.{dollars_left}
use Rattle.mbe_rule.specs.Faults.{fault_of_variables, pattern_fault}
use Rattle.mbe_rule.specs.Variables.{names_of, names_in, variable_in}
use Rattle.mbe_rule.proofs.names.pattern_names.Given as goal

abbrev pub invariant-loop-dollars : goal.invariant-loop-dollars
invariant-loop-dollars l =
    record {
      fault : fault_of_variables l.names.keys (map variable_in (dollars_left l.dollars)) ≡ pattern_fault (trees_of l.fn.pattern);
      named : l.names.keys ++ names_of (map variable_in (dollars_left l.dollars)) ≡ names_in (trees_of l.fn.pattern);
    }

abbrev pub decreases-loop-dollars : goal.decreases-loop-dollars
decreases-loop-dollars l = length (dollars_left l.dollars)
