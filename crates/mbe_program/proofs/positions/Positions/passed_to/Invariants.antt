-- The position so far, after the trees that are left to pass, is the position after all of them.
use Rattle.std.proofs.Common.{◌≡◌, ◌-◌}
use Rattle.mbe_program.specs.Positions.{table_of}
use Rattle.mbe_program.specs.Tables.{passed_to}
use Rattle.mbe_program.proofs.positions.Positions.passed_to.Given as goal

abbrev pub invariant-loop : goal.invariant-loop
invariant-loop l = passed_to (table_of l.fn.self) (l.fn.count - l.counter) l.to ≡ passed_to (table_of l.fn.self) l.fn.count l.fn.number
