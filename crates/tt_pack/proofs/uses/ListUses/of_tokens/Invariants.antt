-- The values of the tokens so far have had their uses, their indices are kept, and there is room for the tokens. The tokens are a whole
-- list exactly if those to come complete the open levels.
use Rattle.std.proofs.Common.{◌↔◌, take, drop}
use Rattle.std.specs.List.{AllZip}
use Rattle.tt_base.specs.Forest.{IsWhole, AreLevels}
use Rattle.tt_base.specs.Levels.{open_levels}
use Rattle.tt_tables.specs.Uses.{part_uses, symbol_uses}
use Rattle.tt_pack.specs.Meeting.{IsPartAt, IsSymbolAt}
use Rattle.tt_pack.specs.Room.{HasRoomForAll}
use Rattle.tt_pack.specs.TablesOf.{AreUses}
use Rattle.tt_pack.proofs.uses.ListUses.of_tokens.Given as goal

abbrev pub invariant-loop-token : goal.invariant-loop-token
invariant-loop-token g l =
    record {
      met : g.V.Values.has_met l.values (part_uses (take l.token-index l.tokens)) (symbol_uses (take l.token-index l.tokens));
      whole : IsWhole l.tokens ↔ AreLevels (drop l.token-index l.tokens) (open_levels l.levels);
      stand : AllZip (AreUses (IsPartAt (part_uses (take l.token-index l.tokens))) (IsSymbolAt (symbol_uses (take l.token-index l.tokens)))) (take l.token-index l.tokens) l.uses.tokens.items;
      room : HasRoomForAll (take l.token-index l.tokens) l.uses.room;
    }
