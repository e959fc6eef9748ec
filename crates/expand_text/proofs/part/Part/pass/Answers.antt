use Rattle.std.proofs.Common.{ap₂, ◌∙◌}
use Rattle.tt.specs.Gluing.{after_trees}
use Rattle.tt.specs.Iters.{rest_of}
use Rattle.expand_text.proofs.Parted.{after_part}
use Rattle.expand_text.proofs.part.Part.pass.Goals as goal

pub returns : goal.returns
returns c = c.pass-2.ensures.rest ∙ ap₂ after_trees c.more.ensures c.pass.ensures.rest ∙ after_part c.args.self.now (rest_of c.args.trees.now)
