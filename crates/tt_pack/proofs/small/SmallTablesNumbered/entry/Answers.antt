use Rattle.std.proofs.Common.{[], ◌≤◌, ◌<◌, ◌^◌, length, sym, subst, rules}
use Rattle.tt_codec.specs.declared.entry.Entry.TheVariants.{Leaf as of_leaf}
use Rattle.tt_tables.specs.declared.token.InternedToken.TheVariants as interned
use Rattle.tt_tables.specs.OnePart.{NamesAt}
use Rattle.tt_pack.specs.SmallTables.{list_within, tables_within}
use Rattle.tt_pack.specs.Writing.{IsEntryAt}
use Rattle.tt_pack.proofs.Renumbered.{leaf_entry_at, header_entry_at}
use Rattle.tt_pack.proofs.SmallFacts.{one_part_leads, small_meant}
use Rattle.tt_pack.proofs.small.SmallTablesNumbered.entry.Goals as goal

pub unreachable-requires : goal.unreachable-requires
unreachable-requires c =
    let it = c.args.self.now in
    let (meant, is) = small_meant c.requires.leads.part (tables_within it) (list_within it) c.args.index (interned.Open c.in-Open.field-0 c.in-Open.field-1) c.requires.index c.requires.leads.one (subst (NamesAt (list_within it) c.args.index) c.in-Open.is c.interned.ensures) c.requires.known c.requires.whole in
    absurd is.named

pub held_bytes-child_bytes-requires : goal.held_bytes-child_bytes-requires
held_bytes-child_bytes-requires c =
    let it = c.args.self.now in
    let (meant, is) = small_meant c.requires.leads.part (tables_within it) (list_within it) c.args.index (interned.Header c.in-Header.entry) c.requires.index c.requires.leads.one (subst (NamesAt (list_within it) c.args.index) c.in-Header.is c.interned.ensures) c.requires.known c.requires.whole in
    let few_parts : length it.parts.items ≤ 2 ^ 28 = search rules in
    (header_entry_at _ (tables_within it) [] it.symbols.new_indices.items (one_part_leads c.requires.leads.part it.parts.items c.requires.leads.parts) c.requires.leads.symbols few_parts (list_within it) c.args.index c.requires.index c.in-Header.entry meant
    c.args.written.now.sums.items c.requires.few c.requires.whole c.requires.written.sums is).0

pub returns-in-Leaf : goal.returns-in-Leaf
returns-in-Leaf c =
    let it = c.args.self.now in
    let (meant, is) = small_meant c.requires.leads.part (tables_within it) (list_within it) c.args.index (interned.Leaf c.in-Leaf.entry) c.requires.index c.requires.leads.one (subst (NamesAt (list_within it) c.args.index) c.in-Leaf.is c.interned.ensures) c.requires.known c.requires.whole in
    let few_parts : length it.parts.items ≤ 2 ^ 28 = search rules in
    let few_symbols : length it.symbols.values.items ≤ 2 ^ 29 = search rules in
    subst (λ e. IsEntryAt (tables_within it) (list_within it) c.args.index (of_leaf e)) (sym c.leaf.ensures)
    (leaf_entry_at _ (tables_within it) [] _ (one_part_leads c.requires.leads.part it.parts.items c.requires.leads.parts) c.requires.leads.symbols few_parts (list_within it) c.args.index c.requires.index c.in-Leaf.entry meant few_symbols is)

pub returns-in-Header : goal.returns-in-Header
returns-in-Header c =
    let it = c.args.self.now in
    let (meant, is) = small_meant c.requires.leads.part (tables_within it) (list_within it) c.args.index (interned.Header c.in-Header.entry) c.requires.index c.requires.leads.one (subst (NamesAt (list_within it) c.args.index) c.in-Header.is c.interned.ensures) c.requires.known c.requires.whole in
    let few_parts : length it.parts.items ≤ 2 ^ 28 = search rules in
    let small : c.held_bytes-child_bytes.result < 2 ^ 32 = search rules in
    (header_entry_at _ (tables_within it) [] it.symbols.new_indices.items (one_part_leads c.requires.leads.part it.parts.items c.requires.leads.parts) c.requires.leads.symbols few_parts (list_within it) c.args.index c.requires.index c.in-Header.entry meant
    c.args.written.now.sums.items c.requires.few c.requires.whole c.requires.written.sums is).1 _ small c.held_bytes-child_bytes.ensures
