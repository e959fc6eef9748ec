use Rattle.std.proofs.Common.{rules, ◌≡◌}
use Rattle.tt.specs.OneState.{state_is}
use Rattle.tt.proofs.Steps.{keeps, same_keeps}
use Rattle.tt.proofs.builder.TopSubtreeBuilder.clone.Goals as goal

pub invariant_of-result : goal.invariant_of-result
invariant_of-result c =
    let is = keeps _ _ _ _ _ _ c.self.inside.state c.self.inside.open_headers _ c.self.view_is in
    let next = same_keeps _ _ _ _ _ _ _ _ _ _ is (search rules) (search rules) (search rules) in
    ((c.args.self.now, next.state), (next.opens, tt))

pub returns-clause-ok : goal.returns-clause-ok
returns-clause-ok c =
    let is = keeps _ _ _ _ _ _ c.self.inside.state c.self.inside.open_headers _ c.self.view_is in
    let held : c.in_ok-held.held ≡ c.self.inside.held = search rules in
    let headers : c.extend_from_slice.new.self.items ≡ c.self.inside.headers.items = search rules in
    let points : c.extend_from_slice-2.new.self.items ≡ c.self.inside.points.items = search rules in
    let next = same_keeps _ _ _ _ _ _ _ _ _ _ is held headers points in
    let state = next.state in
    search (rules, state_is, state)
