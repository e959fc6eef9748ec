-- The parts of the tokens so far are noted.
use Rattle.std.proofs.Common.{◌≡◌, nat_eq, length, take}
use Rattle.tt_tables.specs.TableOrder.{different}
use Rattle.tt_pack.specs.Places.{part_places, AreRanked}
use Rattle.tt_pack.proofs.first_uses.FirstUses.meet_list.Given as goal

abbrev pub invariant-loop-token : goal.invariant-loop-token
invariant-loop-token l =
    record {
      order : l.self.order.items ≡ different nat_eq (part_places (take l.token-index l.tokens));
      ranked : AreRanked l.self.order.items l.self.ranks.items;
      places : length l.self.ranks.items ≡ length l.fn.self.ranks.items;
    }
