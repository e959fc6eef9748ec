use Rattle.std.proofs.Common.{◌≡◌, ◌+◌, ◌<◌, ◌≤◌, ◌^◌, ◌∷◌, Err, sym, subst, rules}
use Rattle.tt_base.specs.declared.token_tree.TokenTree.TheVariants as token
use Rattle.tt_base.specs.Forest.{Root, size, flat_root}
use Rattle.tt_tables.specs.Stored.{most_tokens, IsWithinLimits}
use Rattle.tt_tables.specs.Meaning.{IsStored}
use Rattle.tt_tables.proofs.StoredAlike.{meaning_is}
use Rattle.tt_pack.specs.Packed.{stored_of, root_of, IsStoreFault}
use Rattle.tt_pack.proofs.Storing.{stored_list, refused_list}
use Rattle.tt_pack.proofs.packed.Packed.of_numbered.Goals as goal

pub returns-in_err-bytes-clause-err : goal.returns-in_err-bytes-clause-err
returns-in_err-bytes-clause-err g c =
    let list = g.N.Numbered.list c.args.numbers in
    let fits : c.args.top.len < 2 ^ 32 = search rules in
    let told : IsStoreFault list c.in_err-bytes.field-0.0 = search rules in
    let is : c.from_residual.result ≡ Err c.in_err-bytes.field-0.0 = search rules in
    rw is (refused_list c.args.top list c.requires.counted fits _ told)

pub invariant_of-result : goal.invariant_of-result
invariant_of-result g c = ((root_of c.args.top (g.N.Numbered.list c.args.numbers), c.in_ok-bytes.ensures.ok), tt)

pub returns-clause-ok : goal.returns-clause-ok
returns-clause-ok g c =
    let list = g.N.Numbered.list c.args.numbers in
    let top = c.args.top in
    let fits : top.len < 2 ^ 32 = search rules in
    let is : IsStored (stored_of c.in_ok-bytes.bytes.items c.in_ok-bytes.parts.items c.in_ok-bytes.symbols.items (top.len + 1)) (root_of top list) = c.in_ok-bytes.ensures.ok in
    let its : (root : Root) → root ≡ root_of top list → (token.Subtree top ∷ list ≡ flat_root root) × (size root.children ≤ most_tokens) × IsWithinLimits root =
    λ root e. let found = stored_list top list c.requires.counted fits root c.requires.tables.whole e in (found.0, found.1, subst IsWithinLimits (sym e) is.1) in
    search (rules, its, meaning_is, is)
