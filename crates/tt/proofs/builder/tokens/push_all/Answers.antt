use Rattle.std.proofs.Common.{length, map, ap, arith, length-append}
use Rattle.std.proofs.lemmas.List.{length-map}
use Rattle.tt_base.specs.Forest.{flat}
use Rattle.tt_base.specs.Unflat.{length-flat}
use Rattle.tt_tables.specs.Held.{whole}
use Rattle.tt_view.specs.SubtreeViews.{flat_rest}
use Rattle.tt_view.specs.Views.{trees_of}
use Rattle.tt.proofs.builder.tokens.push_all.Goals as goal

pub push-requires : goal.push-requires
push-requires c =
    let all = flat (trees_of c.args.trees) in
    let rest = flat (flat_rest c.loop-token.token-iterator) in
    record { few = omega (arith, ap length c.loop-token.invariant.2, c.requires, length-append c.loop-token.held (map whole rest), length-append c.args.held.now (map whole all), length-map all whole, length-flat (trees_of c.args.trees)) }
