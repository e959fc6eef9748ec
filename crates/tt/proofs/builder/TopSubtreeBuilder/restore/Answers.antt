use Rattle.std.proofs.Common.{◌≡◌, None, Some, rules, sym, ◌∙◌, ap, is_some, arith}
use Rattle.tt_base.specs.Building.{restored}
use Rattle.tt.specs.Points.{number_of}
use Rattle.tt.specs.BuilderFields.{kept_under}
use Rattle.tt.specs.OneState.{state_is}
use Rattle.tt.proofs.Restoring.{stands, not_restored}
use Rattle.tt.proofs.Steps.{keeps, restored_keeps, point_counts}
use Rattle.tt.proofs.builder.TopSubtreeBuilder.restore.Goals as goal

pub returns-in_default-clause-answer : goal.returns-in_default-clause-answer
returns-in_default-clause-answer c =
    let is = keeps _ _ _ _ _ _ c.self.inside.state c.self.inside.open_headers _ c.self.view_is in
    let none : kept_under (number_of c.args.point) c.self.inside.points.items ≡ None = search rules in
    sym (stands _ _ _ _ _ _ (number_of c.args.point) is.state ∙ ap is_some none)

pub returns-in_default-clause-state : goal.returns-in_default-clause-state
returns-in_default-clause-state c =
    let is = keeps _ _ _ _ _ _ c.self.inside.state c.self.inside.open_headers _ c.self.view_is in
    let none : kept_under (number_of c.args.point) c.self.inside.points.items ≡ None = search rules in
    sym (not_restored _ _ _ _ _ _ (number_of c.args.point) is.state none)

pub overflow_sub-kept : goal.overflow_sub-kept
overflow_sub-kept c =
    let is = keeps _ _ _ _ _ _ c.self.inside.state c.self.inside.open_headers _ c.self.view_is in
    let found : kept_under (number_of c.args.point) c.self.inside.points.items ≡ Some c.in-Some.kept = search rules in
    omega (arith, point_counts _ _ _ _ _ _ _ (number_of c.args.point) c.in-Some.kept is found)

pub invariant_of-self-inside : goal.invariant_of-self-inside
invariant_of-self-inside c =
    let is = keeps _ _ _ _ _ _ c.self.inside.state c.self.inside.open_headers _ c.self.view_is in
    let found : kept_under (number_of c.args.point) c.self.inside.points.items ≡ Some c.in-Some.kept = search rules in
    let next = restored_keeps _ _ _ _ _ _ _ _ _ _ (number_of c.args.point) c.in-Some.kept is found c.truncate.ensures c.truncate-2.ensures.items c.drop_later.ensures in
    ((restored (number_of c.args.point) c.args.self.now, next.state), (next.opens, tt))

pub returns-clause-answer : goal.returns-clause-answer
returns-clause-answer c =
    let is = keeps _ _ _ _ _ _ c.self.inside.state c.self.inside.open_headers _ c.self.view_is in
    let found : kept_under (number_of c.args.point) c.self.inside.points.items ≡ Some c.in-Some.kept = search rules in
    sym (stands _ _ _ _ _ _ (number_of c.args.point) is.state ∙ ap is_some found)

pub returns-clause-state : goal.returns-clause-state
returns-clause-state c =
    let is = keeps _ _ _ _ _ _ c.self.inside.state c.self.inside.open_headers _ c.self.view_is in
    let found : kept_under (number_of c.args.point) c.self.inside.points.items ≡ Some c.in-Some.kept = search rules in
    let next = restored_keeps _ _ _ _ _ _ _ _ _ _ (number_of c.args.point) c.in-Some.kept is found c.truncate.ensures c.truncate-2.ensures.items c.drop_later.ensures in
    let state = next.state in
    search (rules, state_is, state)
