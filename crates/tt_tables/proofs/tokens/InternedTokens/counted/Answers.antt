use Rattle.std.proofs.Common.{map, rules}
use Rattle.tt_tables.specs.Held.{as_token}
use Rattle.tt_tables.specs.OneList.{list_is}
use Rattle.tt_tables.proofs.Growing.{seen}
use Rattle.tt_tables.proofs.Opening.{all_whole}
use Rattle.tt_tables.proofs.Packing.{counted_of, counted_from}
use Rattle.tt_tables.proofs.Interned.{entries_distinct}
use Rattle.tt_tables.proofs.tokens.InternedTokens.counted.Goals as goal

pub invariant_of-result : goal.invariant_of-result
invariant_of-result c =
    let is = seen _ _ _ c.self.inside.held _ c.self.view_is in
    let are = counted_of _ _ _ _ is.named (entries_distinct c.self.inside.parts) is.parts_counted (entries_distinct c.self.inside.symbols) is.symbols_counted is.in_order (all_whole 1 c.args.self.now c.requires) in
    let lent = counted_from _ c.deref.result.now _ c.values.result.now _ c.numbers.result.now _ c.values-2.result.now _ c.numbers-2.result.now _ are c.deref.ensures.value c.values.ensures c.numbers.ensures
    c.values-2.ensures c.numbers-2.ensures in
    record { list = (map as_token c.args.self.now, lent) }

pub returns : goal.returns
returns c =
    let is = seen _ _ _ c.self.inside.held _ c.self.view_is in
    let are = counted_of _ _ _ _ is.named (entries_distinct c.self.inside.parts) is.parts_counted (entries_distinct c.self.inside.symbols) is.symbols_counted is.in_order (all_whole 1 c.args.self.now c.requires) in
    let lent = counted_from _ c.deref.result.now _ c.values.result.now _ c.numbers.result.now _ c.values-2.result.now _ c.numbers-2.result.now _ are c.deref.ensures.value c.values.ensures c.numbers.ensures
    c.values-2.ensures c.numbers-2.ensures in
    search (rules, list_is, lent)
