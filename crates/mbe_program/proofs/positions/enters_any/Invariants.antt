-- No instruction so far enters a subtree.
use Rattle.std.proofs.Common.{◌≡◌, ℕ, ◌<◌}
use Rattle.std.specs.Prelude.{slice_index_or}
use Rattle.tt.specs.Types.DelimiterKind.{DelimiterKind}
use Rattle.mbe_program.specs.Moving.{instructions_of}
use Rattle.mbe_program.specs.Program.{enter}
use Rattle.mbe_program.proofs.positions.enters_any.Given as goal

abbrev pub invariant-loop-instruction : goal.invariant-loop-instruction
invariant-loop-instruction l =
    (k : ℕ) → k < l.instruction-index → (kind : DelimiterKind) → slice_index_or (instructions_of l.program) k (enter kind) ≡ enter kind → ⊥
