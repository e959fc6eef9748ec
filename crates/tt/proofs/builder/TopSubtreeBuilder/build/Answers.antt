use Rattle.std.proofs.Common.{sym, ◌∙◌}
use Rattle.tt_base.specs.Building.{built}
use Rattle.tt_base.specs.Unflat.{flat_root-injective}
use Rattle.tt_view.proofs.TreeFaults.{tree_fault}
use Rattle.tt.specs.OneState.{seen}
use Rattle.tt.proofs.Building.{few_below, held_whole, built_list}
use Rattle.tt.proofs.builder.TopSubtreeBuilder.build.Goals as goal

pub from_interned-requires-clause-whole : goal.from_interned-requires-clause-whole
from_interned-requires-clause-whole c =
    let is = seen _ _ _ _ _ c.self.inside.state _ c.self.view_is in
    held_whole _ _ _ _ _ _ _ is c.requires _ c.counted.ensures

pub returns-in-Ok-clause-ok : goal.returns-in-Ok-clause-ok
returns-in-Ok-clause-ok c =
    let is = seen _ _ _ _ _ c.self.inside.state _ c.self.view_is in
    flat_root-injective c.in-Ok.tree (built c.args.self) (sym c.in-Ok.ensures.ok ∙ built_list _ _ _ _ _ _ _ is c.requires _ c.counted.ensures)

pub returns-in-Err-clause-fault : goal.returns-in-Err-clause-fault
returns-in-Err-clause-fault c =
    let is = seen _ _ _ _ _ c.self.inside.state _ c.self.view_is in
    tree_fault (built c.args.self) _ (built_list _ _ _ _ _ _ _ is c.requires _ c.counted.ensures) (few_below _ _ _ _ _ _ _ is c.requires) c.in-Err.fault c.in-Err.ensures.err
