-- The search for what is needed goes on.
use Rattle.indexmap.specs.IndexMap.{index_map_len}
use Rattle.expand_unused.specs.Waiting.{waiting_in, GoesOn}
use Rattle.expand_unused.proofs.needing.settle.Given as goal

abbrev pub invariant-loop-words : goal.invariant-loop-words
invariant-loop-words l = GoesOn (waiting_in l.initial.waiting) (waiting_in l.waiting) l.initial.needed.items l.needed.items

abbrev pub decreases-loop-words : goal.decreases-loop-words
decreases-loop-words l = index_map_len l.waiting
