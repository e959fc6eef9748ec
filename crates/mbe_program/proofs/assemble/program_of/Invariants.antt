-- The pieces that are left make, before what was made, what all pieces make.
use Rattle.std.proofs.Common.{◌≡◌, length, map}
use Rattle.tt.specs.Iters.{rest_of}
use Rattle.mbe_pattern.specs.Placed.{pattern_of}
use Rattle.mbe_program.specs.Assembling.{made_of, made_by, nothing_made}
use Rattle.mbe_program.specs.Pieces.{bit_of, all_bits}
use Rattle.mbe_program.proofs.assemble.program_of.Given as goal

abbrev pub invariant-loop-piece : goal.invariant-loop-piece
invariant-loop-piece l =
    made_by l.total (map bit_of l.pieces.items) (made_of l.made) ≡ made_by l.total (all_bits (pattern_of (rest_of l.fn.pattern))) nothing_made

abbrev pub decreases-loop-piece : goal.decreases-loop-piece
decreases-loop-piece l = length l.pieces.items
