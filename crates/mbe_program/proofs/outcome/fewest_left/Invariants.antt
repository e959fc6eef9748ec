-- The fewest at the arrivals so far.
use Rattle.std.proofs.Common.{map, take}
use Rattle.mbe_program.specs.Positions.{table_of}
use Rattle.mbe_program.specs.Searching.{coming_of, IsFewest}
use Rattle.mbe_program.proofs.outcome.fewest_left.Given as goal

abbrev pub invariant-loop-arrival : goal.invariant-loop-arrival
invariant-loop-arrival l = IsFewest (table_of l.positions) l.fn.most (map coming_of (take l.arrival-index l.log)) l.fewest
