use Rattle.std.proofs.Common.{suc, ◌<◌, length, rules}
use Rattle.std.proofs.lemmas.Option.{slice_get_within}
use Rattle.tt_tables.proofs.OneNode.{has_use, use_read, use_taken}
use Rattle.tt_tables.proofs.node.with_less.Goals as goal

pub index_mut-requires : goal.index_mut-requires
index_mut-requires c =
    let (parts, others, has) = c.requires in
    let (n, at) = has_use parts c.args.place others c.args.numbers.items has in
    let within : c.args.place < length c.args.numbers.items = slice_get_within c.args.numbers.items c.args.place (suc n) at in
    search (rules, within)

pub overflow_sub-index_mut : goal.overflow_sub-index_mut
overflow_sub-index_mut c =
    let (parts, others, has) = c.requires in
    use_read parts c.args.place others c.args.numbers.items c.index_mut.result.now _ has c.index_mut.ensures.value

pub returns : goal.returns
returns c = λ parts others has. use_taken parts c.args.place others c.args.numbers.items c.index_mut.result.now _ has c.index_mut.ensures.value
