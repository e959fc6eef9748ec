-- What is found from there on is what is found in all.
use Rattle.std.proofs.Common.{◌≡◌, drop}
use Rattle.mbe_program.specs.Labelling.{labelled}
use Rattle.mbe_program.specs.Moving.{instructions_of}
use Rattle.mbe_program.proofs.part.part_in.Given as goal

abbrev pub invariant-loop-index : goal.invariant-loop-index
invariant-loop-index l =
    labelled (drop l.index (instructions_of l.program)) (drop l.index l.numbers) l.number ≡ labelled (instructions_of l.program) l.numbers l.number
