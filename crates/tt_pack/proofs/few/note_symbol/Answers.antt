use Rattle.std.proofs.Common.{bytes_eq, rules}
use Rattle.tt_base.specs.contracts.symbol.SymbolEq.TheImpl.Laws as symbol_eq
use Rattle.tt_pack.proofs.Noting.{noted_there}
use Rattle.tt_pack.proofs.few.note_symbol.Goals as goal

pub returns-then-is_at-clause-symbols : goal.returns-then-is_at-clause-symbols
returns-then-is_at-clause-symbols c = noted_there bytes_eq symbol_eq.lawful.laws c.args.symbols.now.items c.place-place.result c.args.symbol.now (search rules)
