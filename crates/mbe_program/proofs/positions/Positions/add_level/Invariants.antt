-- The positions so far, and those after them of the level, are all that are wanted.
use Rattle.std.proofs.Common.{◌≡◌, ◌+◌, ◌<◌, ◌^◌, ◌++◌}
use Rattle.tt.specs.Forest.{size}
use Rattle.tt.specs.Iters.{rest_of}
use Rattle.mbe_program.specs.Laying.{level_spots, spots_of}
use Rattle.mbe_program.proofs.Laid.{more_spots}
use Rattle.mbe_program.proofs.positions.Positions.add_level.Given as goal

abbrev pub invariant-loop-rest : goal.invariant-loop-rest
invariant-loop-rest l =
    (spots_of l.self ++ more_spots l.fn.outside l.fn.behind (rest_of l.rest) ≡ spots_of l.fn.self ++ level_spots l.fn.outside l.fn.behind (rest_of l.fn.trees))
    × (l.self.insides ≡ l.fn.self.insides) × (size (rest_of l.rest) + l.fn.behind < 2 ^ 64)

abbrev pub decreases-loop-rest : goal.decreases-loop-rest
decreases-loop-rest l = size (rest_of l.rest)
