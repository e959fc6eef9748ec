use Rattle.std.proofs.Common.{◌≡◌, ◌+◌, ◌∷◌, ◌++◌, [], refl, rules, length, arith}
use Rattle.tt_base.specs.Building.{point_taken}
use Rattle.tt.specs.declared.builder.standing.Standing.{Standing}
use Rattle.tt.specs.OneState.{state_is}
use Rattle.tt.proofs.Pointing.{taken_state}
use Rattle.tt.proofs.Steps.{keeps, same_keeps, length-all}
use Rattle.tt.proofs.builder.TopSubtreeBuilder.restore_point.Goals as goal

pub invariant_of-self-inside : goal.invariant_of-self-inside
invariant_of-self-inside c =
    let is = keeps _ _ _ _ _ _ c.self.inside.state c.self.inside.open_headers _ c.self.view_is in
    let next = same_keeps _ _ _ _ _ _ _ _ _ _ is refl refl c.reserve.ensures.items in
    ((c.args.self.now, next.state), (next.opens, tt))

pub returns-then-is_err-clause-err : goal.returns-then-is_err-clause-err
returns-then-is_err-clause-err c =
    let is = keeps _ _ _ _ _ _ c.self.inside.state c.self.inside.open_headers _ c.self.view_is in
    let next = same_keeps _ _ _ _ _ _ _ _ _ _ is refl refl c.reserve.ensures.items in
    let state = next.state in
    search (rules, state_is, state)

pub invariant_of-self-inside-2 : goal.invariant_of-self-inside-2
invariant_of-self-inside-2 c =
    let is = keeps _ _ _ _ _ _ c.self.inside.state c.self.inside.open_headers _ c.self.view_is in
    let k : Standing = record { number = c.self.inside.taken; tokens = c.len.result + 1; depth = c.len-2.result } in
    let added : c.push_reserved.new.self.items ≡ c.self.inside.points.items ++ k ∷ [] = search rules in
    let depth : c.len-2.result ≡ length c.self.inside.headers.items = search rules in
    let next = taken_state _ _ _ _ _ _ _ k is.state added refl (omega (arith, c.len.ensures, length-all c.self.inside.top c.self.inside.held)) depth in
    ((point_taken c.args.self.now, next), (is.opens, tt))

pub returns-clause-state : goal.returns-clause-state
returns-clause-state c =
    let is = keeps _ _ _ _ _ _ c.self.inside.state c.self.inside.open_headers _ c.self.view_is in
    let k : Standing = record { number = c.self.inside.taken; tokens = c.len.result + 1; depth = c.len-2.result } in
    let added : c.push_reserved.new.self.items ≡ c.self.inside.points.items ++ k ∷ [] = search rules in
    let depth : c.len-2.result ≡ length c.self.inside.headers.items = search rules in
    let next = taken_state _ _ _ _ _ _ _ k is.state added refl (omega (arith, c.len.ensures, length-all c.self.inside.top c.self.inside.held)) depth in
    search (rules, state_is, next)
