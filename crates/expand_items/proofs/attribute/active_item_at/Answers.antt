use Rattle.std.proofs.Common.{rules, ◌≡◌, ◌<◌, ◌^◌, ap, arith}
use Rattle.tt.specs.Forest.{size}
use Rattle.tt.specs.Gluing.{after_trees}
use Rattle.tt.specs.Iters.{rest_of}
use Rattle.expand_items.specs.Attributes.{attributes_len}
use Rattle.expand_items.proofs.Attributes.{attributes_fit}
use Rattle.expand_items.proofs.attribute.active_item_at.Goals as goal

pub item_behind-requires : goal.item_behind-requires
item_behind-requires c =
    let trees = rest_of c.args.trees in
    let len : c.attributes_len-attributes.result ≡ attributes_len trees = search rules in
    let small : size trees < 2 ^ 64 = search rules in
    omega (arith, small, len, ap size c.pass.ensures.rest, ap (λ n. size (after_trees n trees)) len, attributes_fit trees)
