use Rattle.std.proofs.Common.{rules, ◌≡◌, ap, sym, ◌∙◌}
use Rattle.tt.specs.Forest.{join}
use Rattle.tt.specs.Gluing.{after_trees}
use Rattle.tt.specs.Iters.{rest_of, saved_of}
use Rattle.tt.specs.TreeWalks.{innermost}
use Rattle.tt.specs.Views.{trees_of}
use Rattle.mbe_pattern.specs.Units.{front_trees}
use Rattle.mbe_pattern.proofs.Passing.{front_joined, front_is}
use Rattle.expand_text.specs.Parts.{trees_in}
use Rattle.expand_text.proofs.walk.Walk.front.Goals as goal

pub from_savepoint-requires : goal.from_savepoint-requires
from_savepoint-requires c =
    let len = trees_in c.args.part.now in
    let trees = innermost c.args.self.now.trees in
    let kept : saved_of c.savepoint-start.result ≡ trees = search rules in
    let left : rest_of c.pass.new.trees ≡ after_trees len trees = search rules in
    (front_trees len trees, kept ∙ front_joined len trees ∙ ap (join (front_trees len trees)) (sym left))

pub returns : goal.returns
returns c =
    let len = trees_in c.args.part.now in
    let trees = innermost c.args.self.now.trees in
    let kept : saved_of c.savepoint-start.result ≡ trees = search rules in
    let left : rest_of c.pass.new.trees ≡ after_trees len trees = search rules in
    let is : join (trees_of c.from_savepoint.result) (rest_of c.pass.new.trees) ≡ saved_of c.savepoint-start.result = search rules in
    front_is len trees (trees_of c.from_savepoint.result) (ap (join (trees_of c.from_savepoint.result)) (sym left) ∙ is ∙ kept)
