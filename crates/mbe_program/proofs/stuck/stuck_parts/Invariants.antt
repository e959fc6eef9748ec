-- The flags of the arrivals so far.
use Rattle.std.proofs.Common.{map, take}
use Rattle.mbe_program.specs.Moving.{instructions_of}
use Rattle.mbe_program.specs.Positions.{table_of}
use Rattle.mbe_program.specs.Searching.{coming_of}
use Rattle.mbe_program.specs.Stuck.{AreStuck}
use Rattle.mbe_program.proofs.stuck.stuck_parts.Given as goal

abbrev pub invariant-loop-arrival : goal.invariant-loop-arrival
invariant-loop-arrival l = AreStuck (instructions_of l.program) (table_of l.positions) l.fn.left l.parts (map coming_of (take l.arrival-index l.log)) l.flags.items
