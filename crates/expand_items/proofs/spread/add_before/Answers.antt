use Rattle.std.proofs.Common.{rules, ◌≡◌, ap, sym, ◌∙◌}
use Rattle.tt.specs.Building.{append}
use Rattle.tt.specs.Views.{trees_of}
use Rattle.expand_items.specs.Spreads.{before}
use Rattle.expand_items.proofs.spread.add_before.Goals as goal
use Rattle.expand_items.specs.Attributes.{conditions_of}
use Rattle.tt_base.proofs.Appending.{append-end}

pub returns-then-place-eq0-clause-added : goal.returns-then-place-eq0-clause-added
returns-then-place-eq0-clause-added c =
    let stack = c.args.builder.now.stack in
    let none : c.args.place ≡ 0 = search rules in
    sym (ap (λ n. append (before (conditions_of (trees_of c.args.attributes)) n) stack) none ∙ append-end stack)
