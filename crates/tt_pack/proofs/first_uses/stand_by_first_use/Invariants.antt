-- The used places are those from 0 on.
use Rattle.std.proofs.Common.{◌≡◌, nat_eq, take}
use Rattle.std.specs.List.{range_with_len}
use Rattle.tt_tables.specs.TableOrder.{different}
use Rattle.tt_pack.specs.Places.{part_places}
use Rattle.tt_pack.proofs.first_uses.stand_by_first_use.Given as goal

abbrev pub invariant-loop-token : goal.invariant-loop-token
invariant-loop-token l = range_with_len 0 l.met ≡ different nat_eq (part_places (take l.token-index l.tokens))
