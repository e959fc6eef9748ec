use Rattle.std.proofs.Common.{◌≤◌, ◌<◌, ◌^◌, length, ap, sym, subst, arith, rules}
use Rattle.tt_codec.specs.declared.entry.Entry.TheVariants.{Leaf as of_leaf, Header as of_header}
use Rattle.tt_tables.specs.ListOf.{list_of}
use Rattle.tt_tables.proofs.Packing.{as_many_tokens}
use Rattle.tt_pack.specs.InternedTables.{tables_in}
use Rattle.tt_pack.specs.Writing.{IsEntryAt}
use Rattle.tt_pack.proofs.Renumbered.{meant_at, leaf_entry_at, header_entry_at}
use Rattle.tt_pack.proofs.interned.InternedTablesNumbered.entry.Goals as goal

pub bounds-tokens-index : goal.bounds-tokens-index
bounds-tokens-index c =
    let below = c.args.self.now.below in
    omega (arith, c.requires.index, ap length c.tokens.ensures, as_many_tokens below)

pub unreachable-requires : goal.unreachable-requires
unreachable-requires c =
    let (meant, is) = meant_at c.args.self.now.below (tables_in c.args.self.now) c.args.index _ _ _ c.requires.index c.tokens.ensures c.in-Open.is c.requires.known c.requires.whole in
    absurd is.named

pub held_bytes-child_bytes-requires : goal.held_bytes-child_bytes-requires
held_bytes-child_bytes-requires c =
    let it = c.args.self.now in
    let (meant, is) = meant_at it.below (tables_in it) c.args.index _ _ _ c.requires.index c.tokens.ensures c.in-Header.is c.requires.known c.requires.whole in
    let few_parts : length it.parts.items ≤ 2 ^ 28 = search rules in
    (header_entry_at _ (tables_in it) _ _ c.requires.leads.parts c.requires.leads.symbols few_parts (list_of it.below) c.args.index c.requires.index c.in-Header.entry meant
    c.args.written.now.sums.items c.requires.few c.requires.whole c.requires.written.sums is).0

pub returns-in-Leaf : goal.returns-in-Leaf
returns-in-Leaf c =
    let it = c.args.self.now in
    let (meant, is) = meant_at it.below (tables_in it) c.args.index _ _ _ c.requires.index c.tokens.ensures c.in-Leaf.is c.requires.known c.requires.whole in
    let few_parts : length it.parts.items ≤ 2 ^ 28 = search rules in
    let few_symbols : length it.symbols.values.items ≤ 2 ^ 29 = search rules in
    subst (λ e. IsEntryAt (tables_in it) (list_of it.below) c.args.index (of_leaf e)) (sym c.leaf.ensures)
    (leaf_entry_at _ (tables_in it) _ _ c.requires.leads.parts c.requires.leads.symbols few_parts (list_of it.below) c.args.index c.requires.index c.in-Leaf.entry meant few_symbols is)

pub returns-in-Header : goal.returns-in-Header
returns-in-Header c =
    let it = c.args.self.now in
    let (meant, is) = meant_at it.below (tables_in it) c.args.index _ _ _ c.requires.index c.tokens.ensures c.in-Header.is c.requires.known c.requires.whole in
    let few_parts : length it.parts.items ≤ 2 ^ 28 = search rules in
    let small : c.held_bytes-child_bytes.result < 2 ^ 32 = search rules in
    subst (λ e. IsEntryAt (tables_in it) (list_of it.below) c.args.index (of_header e)) (sym c.header.ensures)
    ((header_entry_at _ (tables_in it) _ _ c.requires.leads.parts c.requires.leads.symbols few_parts (list_of it.below) c.args.index c.requires.index c.in-Header.entry meant
    c.args.written.now.sums.items c.requires.few c.requires.whole c.requires.written.sums is).1 _ small c.held_bytes-child_bytes.ensures)
