-- What is counted so far, with the instructions to come, is all.
use Rattle.std.proofs.Common.{◌≡◌, ◌-◌, ◌≤◌, drop, length}
use Rattle.mbe_program.specs.Counting.{count_of, counted, nothing_counted}
use Rattle.mbe_program.specs.Moving.{instructions_of}
use Rattle.mbe_program.proofs.counting.part_numbers.Given as goal

abbrev pub invariant-loop-instruction : goal.invariant-loop-instruction
invariant-loop-instruction l =
    record {
      all : counted (instructions_of l.program) (drop l.instruction-index (instructions_of l.program)) (count_of l.counting) ≡ counted (instructions_of l.program) (instructions_of l.program) nothing_counted;
      few : l.counting.next ≤ length l.counting.numbers.items;
      left : l.behind ≡ length l.program - l.instruction-index;
    }
