use Rattle.std.proofs.Common.{set, ap, ◌∙◌, arith}
use Rattle.std.proofs.lemmas.List.Edits.{map_over_more}
use Rattle.tt_pack.specs.Counted.{new_index}
use Rattle.tt_pack.proofs.interned.renumbered.Goals as goal

pub loop-place-preserved : goal.loop-place-preserved
loop-place-preserved c =
    let new = new_index c.args.new_indices.now in
    let now = c.loop-place.indices.items in
    ap (set now c.loop-place.place) c.new_index_at.ensures
    ∙ map_over_more new c.args.indices.items now c.loop-place.place c.index.result.now (omega (arith, c.loop-place-test.true)) c.loop-place.invariant c.index.ensures
