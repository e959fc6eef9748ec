use Rattle.std.proofs.Common.{rules, ◌≡◌, Some, slice_get, refl, sym, ap, ◌∙◌, arith}
use Rattle.std.proofs.lemmas.Option.{slice_get_read}
use Rattle.tt_bytes.proofs.SymbolsUsed.{used_first}
use Rattle.tt_bytes.proofs.uses.SymbolUses.use_first.Goals as goal

pub returns : goal.returns
returns c before are =
    let copied : c.in-Ok.symbol ≡ c.index-table-index.result = search rules in
    let there : slice_get c.args.table.now c.args.index ≡ Some c.in-Ok.symbol =
    slice_get_read c.args.table.now _ c.args.index c.index-table-index.result refl (omega (arith, c.if-index-table.false)) c.index-table-index.is ∙ ap Some (sym copied) in
    used_first c.args.table.now c.args.index c.len-place.result c.in-Ok.symbol c.args.self.now _ before are there c.requires (search rules) (search (rules, arith)) (search rules) (search rules) (search rules)
