use Rattle.std.proofs.Common.{rules, ◌≡◌, ◌≤◌, arith}
use Rattle.tt.specs.Forest.{size}
use Rattle.tt.specs.Iters.{rest_of}
use Rattle.expand_items.specs.Items.{calls, call_of, item_in}
use Rattle.expand_items.proofs.Attributes.{call_fits}
use Rattle.expand_items.proofs.attribute.item_behind.Goals as goal

pub with_attributes-requires : goal.with_attributes-requires
with_attributes-requires c =
    let trees = rest_of c.args.trees in
    let is : item_in c.args.root.now trees ≡ calls (call_of c.in-Call.call) = search rules in
    let fits : c.in-Call.call.len ≤ size trees = call_fits c.args.root.now trees (call_of c.in-Call.call) is in
    omega (arith, c.requires, fits)
