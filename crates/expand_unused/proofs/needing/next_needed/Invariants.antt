-- No name that waits is known to be needed.
use Rattle.std.proofs.Common.{◌≡◌, length}
use Rattle.indexmap.specs.IndexMap.{index_map_len}
use Rattle.expand_unused.specs.Waiting.{waiting_in, GoesOn}
use Rattle.expand_unused.proofs.needing.next_needed.Given as goal

abbrev pub invariant-loop-name : goal.invariant-loop-name
invariant-loop-name l =
    record {
      goes : GoesOn (waiting_in l.initial.waiting) (waiting_in l.waiting) l.initial.needed.items l.needed.items;
      len : index_map_len l.waiting ≡ index_map_len l.initial.waiting;
    }

abbrev pub decreases-loop-name : goal.decreases-loop-name
decreases-loop-name l = length l.needed.items
