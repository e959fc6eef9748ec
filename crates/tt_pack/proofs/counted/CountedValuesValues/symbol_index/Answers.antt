use Rattle.std.proofs.Common.{bytes_eq, sym, subst}
use Rattle.tt_base.specs.contracts.symbol.SymbolEq.TheImpl.Laws as symbol_eq
use Rattle.tt_tables.proofs.TokenTables.{text_sound}
use Rattle.tt_pack.specs.Counted.{HasRoomFor}
use Rattle.tt_pack.proofs.Counting.{room_counted}
use Rattle.tt_pack.proofs.CountedValues.{meets_counted}
use Rattle.tt_pack.proofs.counted.CountedValuesValues.symbol_index.Goals as goal

pub count_symbol-requires : goal.count_symbol-requires
count_symbol-requires c = record { room = subst (HasRoomFor 1) (sym c.requires.met.all_symbols) (room_counted bytes_eq 1 c.requires.symbols c.requires.few_symbols) }

pub returns-clause-met : goal.returns-clause-met
returns-clause-met c parts symbols met =
    let (counted, stands) =
    meets_counted bytes_eq symbol_eq.lawful.laws text_sound symbols c.args.self.now.symbols.entries c.count_symbol.new.counts.entries c.args.symbol.now c.in_ok-count_symbol.field-0
    met.all_symbols c.in_ok-count_symbol.ensures.counts c.in_ok-count_symbol.ensures.index in
    (record { all_parts = met.all_parts; all_symbols = counted }, stands)
