-- The instructions of a program by their numbers.
use Rattle.std.proofs.Common.{◌≡◌, ℕ, zero, suc, ◌<◌, List, [], ◌∷◌, length, sym, ap, arith}
use Rattle.std.specs.Prelude.{slice_index_or}
use Rattle.mbe_program.specs.Moving.{instruction_of, instructions_of}
use Rattle.mbe_program.specs.Program.{Instruction}
use Rattle.mbe_program.specs.declared.instruction.Instruction.{Instruction as Own}

pub instruction_at : (its : List Own) (n : ℕ) (it : Own) (other : Instruction) → n < length its → it ≡ slice_index_or its n it
    → slice_index_or (instructions_of its) n other ≡ instruction_of it
instruction_at [] n it other less is = absurd (omega (arith, less))
instruction_at (first ∷ its) zero it other less is = ap instruction_of (sym is)
instruction_at (first ∷ its) (suc n) it other less is = instruction_at its n it other (omega (arith, less)) is
