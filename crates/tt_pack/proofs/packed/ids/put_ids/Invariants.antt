use Rattle.std.proofs.Common.{◌≡◌, take}
use Rattle.tt_tables.specs.AstIds.{parts_with_ids}
use Rattle.tt_pack.proofs.packed.ids.put_ids.Given as goal

-- The parts below the index have their ids.
abbrev pub invariant-loop-index : goal.invariant-loop-index
invariant-loop-index l = l.parts ≡ parts_with_ids (take l.index l.ids) l.fn.parts
