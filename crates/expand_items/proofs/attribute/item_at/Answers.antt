use Rattle.std.proofs.Common.{rules, ◌≡◌, false, None, Some, refl}
use Rattle.tt.specs.Iters.{rest_of}
use Rattle.expand_items.specs.Attributes.{item_at}
use Rattle.expand_items.specs.Cfg.{known_of}
use Rattle.expand_items.specs.Inactive.{IsInactive, unless_inactive}
use Rattle.expand_items.specs.Items.{item_meant}
use Rattle.expand_items.proofs.attribute.item_at.Goals as goal

pub returns-in-Some : goal.returns-in-Some
returns-in-Some c =
    let trees = rest_of c.args.trees in
    let position = c.args.position in
    let free : position.is_verbatim ≡ false = search rules in
    let there : IsInactive (known_of c.args.options.now) position trees (Some c.in-Some.len) = search rules in
    unless_inactive (Some c.in-Some.len) free there refl

pub returns-in-None : goal.returns-in-None
returns-in-None c =
    let trees = rest_of c.args.trees in
    let position = c.args.position in
    let free : position.is_verbatim ≡ false = search rules in
    let there : IsInactive (known_of c.args.options.now) position trees None = search rules in
    let is : item_meant c.active_item_at.result ≡ item_at c.args.root.now position trees = search rules in
    unless_inactive None free there is
