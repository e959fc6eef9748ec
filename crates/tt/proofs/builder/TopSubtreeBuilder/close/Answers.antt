use Rattle.std.proofs.Common.{◌≡◌, ◌++◌, ◌∷◌, ◌-◌, [], filter, nat_le, length, refl, arith, rules, ap, sym, ◌∙◌}
use Rattle.tt_base.specs.Building.{closed}
use Rattle.tt.specs.OneState.{state_is}
use Rattle.tt.proofs.Closing.{place_within}
use Rattle.tt.proofs.Steps.{keeps, same_keeps, closed_keeps, length-all, ok_of}
use Rattle.tt.proofs.builder.TopSubtreeBuilder.close.Goals as goal

pub overflow_sub-len : goal.overflow_sub-len
overflow_sub-len c =
    let is = keeps _ _ _ _ _ _ c.self.inside.state c.self.inside.open_headers _ c.self.view_is in
    let popped : c.self.inside.headers.items ≡ c.pop.new.self.items ++ c.in-Some.place ∷ [] = search rules in
    omega (arith, place_within _ _ _ _ _ _ _ _ is.state popped, length-all c.self.inside.top c.self.inside.held, c.len.ensures)

pub invariant_of-self-inside-then-is_err : goal.invariant_of-self-inside-then-is_err
invariant_of-self-inside-then-is_err c =
    let is = keeps _ _ _ _ _ _ c.self.inside.state c.self.inside.open_headers _ c.self.view_is in
    let popped : c.self.inside.headers.items ≡ c.pop.new.self.items ++ c.in-Some.place ∷ [] = search rules in
    let held : c.close.new.self ≡ c.self.inside.held = search rules in
    let back : c.push_reserved.new.self.items ≡ c.self.inside.headers.items = search (rules, popped) in
    let next = same_keeps _ _ _ _ _ _ _ _ _ _ is held back refl in
    ((c.args.self.now, next.state), (next.opens, tt))

pub returns-then-is_err-clause-err : goal.returns-then-is_err-clause-err
returns-then-is_err-clause-err c =
    let is = keeps _ _ _ _ _ _ c.self.inside.state c.self.inside.open_headers _ c.self.view_is in
    let popped : c.self.inside.headers.items ≡ c.pop.new.self.items ++ c.in-Some.place ∷ [] = search rules in
    let held : c.close.new.self ≡ c.self.inside.held = search rules in
    let back : c.push_reserved.new.self.items ≡ c.self.inside.headers.items = search (rules, popped) in
    let next = same_keeps _ _ _ _ _ _ _ _ _ _ is held back refl in
    let state = next.state in
    search (rules, state_is, state)

pub invariant_of-self-inside-2 : goal.invariant_of-self-inside-2
invariant_of-self-inside-2 c =
    let is = keeps _ _ _ _ _ _ c.self.inside.state c.self.inside.open_headers _ c.self.view_is in
    let popped : c.self.inside.headers.items ≡ c.pop.new.self.items ++ c.in-Some.place ∷ [] = search rules in
    let within = place_within _ _ _ _ _ _ _ _ is.state popped in
    let sized : c.len.result - c.in-Some.place ≡ length c.self.inside.held - c.in-Some.place = ap (λ n. n - c.in-Some.place) c.len.ensures in
    let deep : c.len-2.result ≡ length c.pop.new.self.items = search rules in
    let fewer : c.drop_deeper.new.points.items ≡ filter (λ p. nat_le p.depth (length c.pop.new.self.items)) c.self.inside.points.items = c.drop_deeper.ensures ∙ ap (λ n. filter (λ p. nat_le p.depth n) c.self.inside.points.items) deep in
    let patched = ok_of c.close.result (sym c.is_err.ensures.value ∙ c.if-is_err.false) c.close.ensures.ok in
    let next = closed_keeps _ _ _ _ _ _ _ _ _ _ c.args.close_span c.in-Some.place _ is c.requires popped sized patched fewer in
    ((closed c.args.close_span c.args.self.now, next.state), (next.opens, tt))

pub returns-clause-ok : goal.returns-clause-ok
returns-clause-ok c =
    let is = keeps _ _ _ _ _ _ c.self.inside.state c.self.inside.open_headers _ c.self.view_is in
    let popped : c.self.inside.headers.items ≡ c.pop.new.self.items ++ c.in-Some.place ∷ [] = search rules in
    let within = place_within _ _ _ _ _ _ _ _ is.state popped in
    let sized : c.len.result - c.in-Some.place ≡ length c.self.inside.held - c.in-Some.place = ap (λ n. n - c.in-Some.place) c.len.ensures in
    let deep : c.len-2.result ≡ length c.pop.new.self.items = search rules in
    let fewer : c.drop_deeper.new.points.items ≡ filter (λ p. nat_le p.depth (length c.pop.new.self.items)) c.self.inside.points.items = c.drop_deeper.ensures ∙ ap (λ n. filter (λ p. nat_le p.depth n) c.self.inside.points.items) deep in
    let patched = ok_of c.close.result (sym c.is_err.ensures.value ∙ c.if-is_err.false) c.close.ensures.ok in
    let next = closed_keeps _ _ _ _ _ _ _ _ _ _ c.args.close_span c.in-Some.place _ is c.requires popped sized patched fewer in
    let state = next.state in
    search (rules, state_is, state)
