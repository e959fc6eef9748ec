use Rattle.std.proofs.Common.{rules, ◌≡◌, None, Some, Err, map}
use Rattle.std.specs.List.{zip}
use Rattle.tt.specs.Building.{IsGrowthFault}
use Rattle.tt.specs.Iters.{rest_of}
use Rattle.tt.specs.Views.{trees_of}
use Rattle.mbe_rule.specs.Instances.{bound_to}
use Rattle.mbe_rule.specs.Variables.{use_at}
use Rattle.mbe_rule.proofs.Placing.{use_refused_if, leaf_refused}
use Rattle.mbe_rule.proofs.transcribe.place.Goals as goal

pub returns-in_err-push-in-None-clause-fault : goal.returns-in_err-push-in-None-clause-fault
returns-in_err-push-in-None-clause-fault c =
    let plain : use_at c.args.leaf (rest_of c.args.siblings.now) ≡ None = search rules in
    let refused : IsGrowthFault 1 c.args.builder.now c.in_err-push-in-None.field-0.0.fault = search rules in
    let is : c.from_residual.result ≡ Err c.in_err-push-in-None.field-0.0.fault = search rules in
    rw is (leaf_refused (zip c.args.names.now.keys (map trees_of c.args.taken.now)) c.args.leaf (rest_of c.args.siblings.now) c.args.builder.now _ plain refused)

pub returns-in-Some-clause-fault : goal.returns-in-Some-clause-fault
returns-in-Some-clause-fault c =
    let used : use_at c.args.leaf (rest_of c.args.siblings.now) ≡ Some c.in-Some.name = search rules in
    let bound : trees_of c.bound.result ≡ bound_to c.in-Some.name (zip c.args.names.now.keys (map trees_of c.args.taken.now)) = search rules in
    use_refused_if (zip c.args.names.now.keys (map trees_of c.args.taken.now)) c.args.leaf (rest_of c.args.siblings.now) c.in-Some.name c.args.builder.now
    (trees_of c.bound.result) c.extend_with_tt.result used bound c.extend_with_tt.ensures.fault
