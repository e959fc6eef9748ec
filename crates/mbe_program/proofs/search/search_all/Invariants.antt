-- So many arrivals have gone on, and there are few more.
use Rattle.std.proofs.Common.{◌+◌, ◌-◌, ◌*◌, suc, length}
use Rattle.mbe_program.specs.Moving.{instructions_of}
use Rattle.mbe_program.specs.Positions.{table_of}
use Rattle.mbe_program.specs.Searching.{HaveGoneOn}
use Rattle.mbe_program.proofs.search.search_all.Given as goal

abbrev pub invariant-loop-number : goal.invariant-loop-number
invariant-loop-number l = HaveGoneOn (instructions_of l.program) (table_of l.positions) l.number l.search

abbrev pub decreases-loop-number : goal.decreases-loop-number
decreases-loop-number l = (suc (length (instructions_of l.program)) + suc (length (instructions_of l.program))) * length l.positions.all.items - l.number
