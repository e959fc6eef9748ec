use Rattle.std.proofs.Common.{rules, ◌≡◌, ◌<◌, ◌^◌, Some, sym, arith}
use Rattle.tt.specs.Forest.{size}
use Rattle.tt.specs.Iters.{rest_of}
use Rattle.expand_items.specs.MacroRulesItems.{macro_rules_item_in, macro_rules_item_of}
use Rattle.expand_unused.proofs.Fitting.{item_fits}
use Rattle.expand_unused.proofs.first.first_at.Goals as goal

pub returns-then-may_go-clause-fits : goal.returns-then-may_go-clause-fits
returns-then-may_go-clause-fits c =
    let trees = rest_of c.args.trees in
    let few : size trees < 2 ^ 64 = search rules in
    let first : Some (macro_rules_item_of c.in_ok-item.item) ≡ macro_rules_item_in trees = c.in_ok-item.ensures in
    omega (arith, few, item_fits trees (macro_rules_item_of c.in_ok-item.item) (sym first))
