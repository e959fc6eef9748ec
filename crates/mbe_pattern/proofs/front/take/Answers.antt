use Rattle.std.proofs.Common.{rules, ◌≡◌, ap, sym, ◌∙◌}
use Rattle.tt.specs.Forest.{join}
use Rattle.tt.specs.Gluing.{after_trees}
use Rattle.tt.specs.Iters.{rest_of, saved_of}
use Rattle.tt.specs.Views.{trees_of}
use Rattle.mbe_pattern.specs.Units.{front_trees}
use Rattle.mbe_pattern.proofs.Passing.{front_joined, front_is}
use Rattle.mbe_pattern.proofs.front.take.Goals as goal

pub from_savepoint-requires : goal.from_savepoint-requires
from_savepoint-requires c =
    let trees = rest_of c.args.trees.now in
    let saved : saved_of c.savepoint-start.result ≡ trees = search rules in
    let rest : rest_of c.pass.new.trees ≡ after_trees c.args.count trees = search rules in
    (front_trees c.args.count trees, saved ∙ front_joined c.args.count trees ∙ ap (join (front_trees c.args.count trees)) (sym rest))

pub returns-clause-taken : goal.returns-clause-taken
returns-clause-taken c =
    let trees = rest_of c.args.trees.now in
    let saved : saved_of c.savepoint-start.result ≡ trees = search rules in
    let rest : rest_of c.pass.new.trees ≡ after_trees c.args.count trees = search rules in
    let given : join (trees_of c.from_savepoint.result) (rest_of c.pass.new.trees) ≡ saved_of c.savepoint-start.result = search rules in
    front_is c.args.count trees (trees_of c.from_savepoint.result) (ap (join (trees_of c.from_savepoint.result)) (sym rest) ∙ given ∙ saved)
