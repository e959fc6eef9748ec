use Rattle.std.proofs.Common.{subst}
use Rattle.tt_base.specs.Levels.{open_levels}
use Rattle.tt_tables.specs.Held.{whole}
use Rattle.tt_tables.specs.Names.{Names}
use Rattle.tt_bytes.proofs.Shaped.{if_ok, header_as, leaf_as}
use Rattle.tt_bytes.proofs.whole.take.Goals as goal

pub returns-in-Header : goal.returns-in-Header
returns-in-Header c =
    if_ok c.take.result (λ fits takes tables it named is. header_as tables c.in-Header.header it c.args.delimiter (open_levels c.args.levels.now) (open_levels c.take.new.self) fits (subst (λ t. Names tables t (whole it)) c.in-Header.is named) takes) c.take.ensures.ok

pub returns-in-Leaf : goal.returns-in-Leaf
returns-in-Leaf c =
    if_ok c.take-in-Leaf.result (λ fits takes tables it named is. leaf_as tables _ it c.args.leaf.now (open_levels c.args.levels.now) (open_levels c.take-in-Leaf.new.self) fits (subst (λ t. Names tables t (whole it)) c.in-Leaf.is named) is takes) c.take-in-Leaf.ensures.ok
