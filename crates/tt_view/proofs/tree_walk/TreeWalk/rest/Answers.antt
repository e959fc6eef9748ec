use Rattle.std.proofs.Common.{◌∙◌}
use Rattle.tt_view.proofs.tree_walk.TreeWalk.rest.Goals as goal

pub at-requires : goal.at-requires
at-requires c = c.args.self.now.held.0

pub returns : goal.returns
returns c = c.over.ensures ∙ c.at.ensures c.args.self.now.held.0
