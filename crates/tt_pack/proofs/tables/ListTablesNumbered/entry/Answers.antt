use Rattle.std.proofs.Common.{◌≡◌, ◌∙◌, subst, arith, get_or}
use Rattle.tt_base.specs.declared.token_tree.TokenTree.TheVariants as token
use Rattle.tt_pack.specs.TablesOf.{HasUses, tables_of, tokens_in}
use Rattle.tt_pack.proofs.ListTables.{leaf_named, header_named}
use Rattle.tt_pack.proofs.Paired.{length-paired, paired_at}
use Rattle.tt_pack.proofs.Writing.{header_holds}
use Rattle.tt_pack.proofs.tables.ListTablesNumbered.entry.Goals as goal

pub index-uses-requires : goal.index-uses-requires
index-uses-requires c =
    let it = c.args.self.now in
    omega (arith, length-paired (HasUses it) (tokens_in it) it.uses.items c.requires.leads.uses, c.requires.index)

pub leaf_entry-requires-clause-uses : goal.leaf_entry-requires-clause-uses
leaf_entry-requires-clause-uses c =
    let it = c.args.self.now in
    let read = subst (λ t. t ≡ get_or (tokens_in it) c.args.index t) (c.index-self-index.is ∙ c.in-Leaf.is) c.index-self-index.is in
    paired_at (HasUses it) (tokens_in it) it.uses.items c.args.index (token.Leaf c.in-Leaf.leaf) c.index-uses.result.now c.requires.leads.uses c.requires.index read c.index-uses.ensures

pub held_bytes-child_bytes-requires : goal.held_bytes-child_bytes-requires
held_bytes-child_bytes-requires c =
    let it = c.args.self.now in
    let read = subst (λ t. t ≡ get_or (tokens_in it) c.args.index t) (c.index-self-index.is ∙ c.in-Subtree.is) c.index-self-index.is in
    let holds = header_holds (tables_of it) (tokens_in it) c.args.index c.in-Subtree.header c.args.written.now.sums.items c.requires.index c.requires.whole read c.requires.written.sums in
    rw c.usize_len.ensures.value holds.0

pub header_entry-requires-clause-uses : goal.header_entry-requires-clause-uses
header_entry-requires-clause-uses c =
    let it = c.args.self.now in
    let read = subst (λ t. t ≡ get_or (tokens_in it) c.args.index t) (c.index-self-index.is ∙ c.in-Subtree.is) c.index-self-index.is in
    paired_at (HasUses it) (tokens_in it) it.uses.items c.args.index (token.Subtree c.in-Subtree.header) c.index-uses.result.now c.requires.leads.uses c.requires.index read c.index-uses.ensures

pub returns-in-Leaf : goal.returns-in-Leaf
returns-in-Leaf c =
    let it = c.args.self.now in
    let read = subst (λ t. t ≡ get_or (tokens_in it) c.args.index t) (c.index-self-index.is ∙ c.in-Leaf.is) c.index-self-index.is in
    leaf_named (tables_of it) (tokens_in it) c.args.index _ _ read c.leaf_entry.ensures

pub returns-in-Subtree : goal.returns-in-Subtree
returns-in-Subtree c =
    let it = c.args.self.now in
    let read = subst (λ t. t ≡ get_or (tokens_in it) c.args.index t) (c.index-self-index.is ∙ c.in-Subtree.is) c.index-self-index.is in
    let holds = header_holds (tables_of it) (tokens_in it) c.args.index c.in-Subtree.header c.args.written.now.sums.items c.requires.index c.requires.whole read c.requires.written.sums in
    header_named (tables_of it) (tokens_in it) c.args.index _ _ _ read (c.held_bytes-child_bytes.ensures ∙ rw c.usize_len.ensures.value holds.1) c.header_entry.ensures
