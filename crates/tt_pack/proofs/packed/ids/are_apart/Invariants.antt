use Rattle.std.proofs.Common.{◌≡◌, take}
use Rattle.std.specs.List.{IsDistinct}
use Rattle.tt_tables.specs.AstIds.{parts_with_ids}
use Rattle.tt_tables.specs.Uses.{same_part}
use Rattle.tt_pack.proofs.packed.ids.are_apart.Given as goal

-- The parts below the index are in the set with their ids, and none of them comes twice.
abbrev pub invariant-loop-index : goal.invariant-loop-index
invariant-loop-index l =
    record { put : l.found.keys ≡ take l.index (parts_with_ids l.ids l.parts); once : IsDistinct same_part l.found.keys }
