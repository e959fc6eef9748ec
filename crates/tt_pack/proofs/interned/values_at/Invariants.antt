-- The values so far are at the places so far.
use Rattle.std.proofs.Common.{take}
use Rattle.std.specs.List.{AllZip}
use Rattle.tt_pack.specs.Places.{IsAt}
use Rattle.tt_pack.proofs.interned.values_at.Given as goal

abbrev pub invariant-loop-index : goal.invariant-loop-index
invariant-loop-index g l = AllZip (IsAt l.values) (take l.index l.places) l.found.items
