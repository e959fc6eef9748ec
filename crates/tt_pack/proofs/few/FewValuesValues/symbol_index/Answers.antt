use Rattle.std.proofs.Common.{refl}
use Rattle.tt_pack.proofs.FewMeeting.{notes_symbol}
use Rattle.tt_pack.proofs.few.FewValuesValues.symbol_index.Goals as goal

pub returns-clause-met : goal.returns-clause-met
returns-clause-met c =
    notes_symbol c.args.self.now (record c.args.self.now { symbols = c.note_symbol.new.symbols }) c.note_symbol.result c.args.symbol.now refl
    c.note_symbol.ensures.few c.note_symbol.ensures.symbols c.note_symbol.ensures.index
