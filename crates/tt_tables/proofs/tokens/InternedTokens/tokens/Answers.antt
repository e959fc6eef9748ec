use Rattle.std.proofs.Common.{sym, subst}
use Rattle.tt_tables.specs.Interned.{tables_of}
use Rattle.tt_tables.specs.Names.{AllName}
use Rattle.tt_tables.specs.Interner.{entries_of}
use Rattle.tt_tables.proofs.Growing.{seen}
use Rattle.tt_tables.proofs.tokens.InternedTokens.tokens.Goals as goal

pub returns : goal.returns
returns c =
    let is = seen _ _ _ c.self.inside.held _ c.self.view_is in
    let tables = tables_of (entries_of c.self.inside.parts) (entries_of c.self.inside.symbols) in
    (tables, subst (λ tokens. AllName tables tokens c.args.self.now) (sym c.deref.ensures.value) is.named)
