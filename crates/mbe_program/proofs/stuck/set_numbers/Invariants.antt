-- The numbers so far, and those of the flags to come.
use Rattle.std.proofs.Common.{◌≡◌, ◌++◌, drop}
use Rattle.mbe_matcher.specs.Waiting.{set_from}
use Rattle.mbe_program.proofs.stuck.set_numbers.Given as goal

abbrev pub invariant-loop-number : goal.invariant-loop-number
invariant-loop-number l = l.numbers.items ++ set_from l.number (drop l.number l.flags) ≡ set_from 0 l.flags
