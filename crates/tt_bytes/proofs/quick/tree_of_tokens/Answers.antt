use Rattle.std.proofs.Common.{rules, map, subst, sym, arith}
use Rattle.std.specs.Prelude.{IsTrue}
use Rattle.tt_tables.specs.Held.{whole}
use Rattle.tt_tables.specs.ListOf.{list_of}
use Rattle.tt_tables.specs.Names.{AllName}
use Rattle.tt_tables.specs.Tables.{tables_from}
use Rattle.tt_bytes.proofs.Shaped.{long_as}
use Rattle.tt_bytes.proofs.quick.tree_of_tokens.Goals as goal

pub from_interned-requires-clause-whole : goal.from_interned-requires-clause-whole
from_interned-requires-clause-whole c =
    let seen : IsTrue c.in_ok-are_whole.field-0 = search rules in
    let named : AllName (tables_from c.args.taking.now.tables.parts.now c.args.taking.now.symbols.order.items) c.deref.result.now (map whole (list_of c.counted.result)) =
    subst (λ l. AllName (tables_from c.args.taking.now.tables.parts.now c.args.taking.now.symbols.order.items) l (map whole (list_of c.counted.result))) (sym c.deref.ensures.value) c.counted.ensures.named in
    c.in_ok-are_whole.ensures seen _ (list_of c.counted.result) named

pub from_interned-requires-clause-few : goal.from_interned-requires-clause-few
from_interned-requires-clause-few c =
    let long = long_as _ _ (list_of c.counted.result) c.counted.ensures.named in
    search (rules, arith, long)
