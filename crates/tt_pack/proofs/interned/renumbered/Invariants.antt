-- The indices so far are new.
use Rattle.std.proofs.Common.{◌≡◌, ◌++◌, map, take, drop}
use Rattle.tt_pack.specs.Counted.{new_index}
use Rattle.tt_pack.proofs.interned.renumbered.Given as goal

abbrev pub invariant-loop-place : goal.invariant-loop-place
invariant-loop-place l = l.indices.items ≡ map (new_index l.new_indices) (take l.place l.fn.indices.items) ++ drop l.place l.fn.indices.items
