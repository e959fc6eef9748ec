-- The positions so far are laid, and those that are still to come are counted.
use Rattle.std.proofs.Common.{◌≡◌, ◌+◌, ◌-◌, ◌<◌, ◌≤◌, suc, length, drop}
use Rattle.tt.specs.Iters.{rest_of}
use Rattle.mbe_program.specs.Moving.{instructions_of}
use Rattle.mbe_program.specs.Laying.{AreLaid, pending, places_in, spots_of}
use Rattle.mbe_program.proofs.positions.lay_out.Given as goal

abbrev pub invariant-loop-number : goal.invariant-loop-number
invariant-loop-number l =
    record {
      laid : AreLaid (instructions_of l.fn.program) (rest_of l.fn.input) (spots_of l.positions) l.positions.insides.items;
      count : length l.positions.insides.items ≡ l.number;
      some : 0 < l.number;
      upto : l.number ≤ length (spots_of l.positions);
      pending : length (spots_of l.positions) + pending (drop l.number (spots_of l.positions)) ≤ suc (places_in (rest_of l.fn.input));
    }

abbrev pub decreases-loop-number : goal.decreases-loop-number
decreases-loop-number l = suc (places_in (rest_of l.fn.input)) - l.number
