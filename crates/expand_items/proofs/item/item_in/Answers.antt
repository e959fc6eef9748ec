use Rattle.std.proofs.Common.{rules, ◌≡◌, false, sym}
use Rattle.tt.specs.Iters.{rest_of}
use Rattle.expand_items.specs.Items.{may_begin_item}
use Rattle.expand_items.proofs.Beginnings.{begins_none}
use Rattle.expand_items.proofs.item.item_in.Goals as goal

pub returns-then-not-may_begin_item : goal.returns-then-not-may_begin_item
returns-then-not-may_begin_item c =
    let none : may_begin_item (rest_of c.args.trees) ≡ false = search rules in
    sym (begins_none c.args.root.now (rest_of c.args.trees) none)
