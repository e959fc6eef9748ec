-- No instruction so far enters such a subtree.
use Rattle.std.proofs.Common.{◌≡◌, ℕ, ◌<◌}
use Rattle.std.specs.Prelude.{slice_index_or}
use Rattle.mbe_program.specs.Moving.{instructions_of}
use Rattle.mbe_program.specs.Program.{enter}
use Rattle.mbe_program.proofs.positions.enters.Given as goal

abbrev pub invariant-loop-instruction : goal.invariant-loop-instruction
invariant-loop-instruction l =
    (k : ℕ) → k < l.instruction-index → slice_index_or (instructions_of l.program) k (enter l.kind) ≡ enter l.kind → ⊥
