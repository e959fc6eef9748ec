-- The variables so far, before those of the instructions that are left, are all.
use Rattle.std.proofs.Common.{◌≡◌, ◌+◌, [], ◌++◌, drop, length}
use Rattle.mbe_program.specs.Moving.{instructions_of}
use Rattle.mbe_program.specs.Variables.{known_of, variables_in}
use Rattle.mbe_program.proofs.variables.variables_of.Given as goal

abbrev pub invariant-loop-instruction : goal.invariant-loop-instruction
invariant-loop-instruction l =
    record {
      left : l.left + l.instruction-index ≡ length l.program;
      all : (known_of l.variables).variables ++ variables_in (known_of l.variables).nest (instructions_of (drop l.instruction-index l.program))
          ≡ variables_in [] (instructions_of l.program);
    }
