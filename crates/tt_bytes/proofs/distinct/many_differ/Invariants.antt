-- The values so far are those of the set, and are all different.
use Rattle.std.proofs.Common.{◌≡◌, take}
use Rattle.std.specs.List.{IsDistinct}
use Rattle.tt_bytes.proofs.distinct.many_differ.Given as goal

abbrev pub invariant-loop-value : goal.invariant-loop-value
invariant-loop-value g l =
    record {
      keys : l.seen.keys ≡ take l.value-index l.values;
      unique : IsDistinct g.T.PartialEq.eq l.seen.keys;
    }
