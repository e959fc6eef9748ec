-- The pieces so far, and what is left of the pattern.
use Rattle.std.proofs.Common.{map}
use Rattle.tt.specs.Iters.{rest_of}
use Rattle.mbe_pattern.specs.Placed.{pattern_of}
use Rattle.mbe_program.specs.Cutting.{levels_left}
use Rattle.mbe_program.specs.Pieces.{bit_of}
use Rattle.mbe_program.proofs.CutWhole.{Parse, work_of}
use Rattle.mbe_program.proofs.parse.parse.Given as goal

abbrev pub invariant-loop-level : goal.invariant-loop-level
invariant-loop-level l = Parse (pattern_of (rest_of l.fn.pattern)) (map bit_of l.parser.pieces.items) (levels_left l.parser.levels.items)

abbrev pub decreases-loop-level : goal.decreases-loop-level
decreases-loop-level l = work_of (levels_left l.parser.levels.items)
