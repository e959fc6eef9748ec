use Rattle.std.proofs.Common.{map, bytes_eq, ap, ◌∙◌}
use Rattle.tt_base.specs.contracts.symbol.SymbolEq.TheImpl.Laws as symbol_eq
use Rattle.tt_tables.specs.OneSmall.{small_seen}
use Rattle.tt_tables.specs.Interner.{entries_of}
use Rattle.tt_tables.specs.TableOrder.{uses_of}
use Rattle.tt_tables.specs.Uses.{symbol_uses}
use Rattle.tt_tables.proofs.Packing.{numbers_are}
use Rattle.tt_tables.proofs.small_tokens.SmallTokens.symbol_uses.Goals as goal

pub returns : goal.returns
returns c =
    let is = small_seen _ _ _ _ _ c.self.inside.held _ c.self.view_is in
    c.numbers.ensures ∙ numbers_are bytes_eq symbol_eq.lawful.laws (symbol_uses c.args.self.now) (entries_of c.self.inside.symbols) c.self.inside.symbols.distinct is.counted ∙ ap (map (uses_of bytes_eq (symbol_uses c.args.self.now))) is.in_order
