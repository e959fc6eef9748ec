use Rattle.std.proofs.Common.{◌≡◌, ◌+◌, ◌++◌, ◌∷◌, [], inl, inr, refl, arith, rules}
use Rattle.tt_base.specs.Building.{opened}
use Rattle.tt_tables.specs.Held.{opened as open_header_held}
use Rattle.tt.specs.OneState.{state_is}
use Rattle.tt.proofs.Growing.{full, room}
use Rattle.tt.proofs.Steps.{keeps, same_keeps, opened_keeps, length-all}
use Rattle.tt.proofs.builder.TopSubtreeBuilder.open.Goals as goal

pub returns-then-place-clause-fault : goal.returns-then-place-clause-fault
returns-then-place-clause-fault c =
    let is = keeps _ _ _ _ _ _ c.self.inside.state c.self.inside.open_headers _ c.self.view_is in
    inr (refl, full _ _ _ _ _ _ is.state (omega (arith, c.if-place.true, c.len-place.ensures, length-all c.self.inside.top c.self.inside.held)))

pub invariant_of-self-inside : goal.invariant_of-self-inside
invariant_of-self-inside c =
    let is = keeps _ _ _ _ _ _ c.self.inside.state c.self.inside.open_headers _ c.self.view_is in
    let next = same_keeps _ _ _ _ _ _ _ _ _ _ is refl c.reserve.ensures.items refl in
    ((c.args.self.now, next.state), (next.opens, tt))

pub returns-then-is_err-clause-err : goal.returns-then-is_err-clause-err
returns-then-is_err-clause-err c =
    let is = keeps _ _ _ _ _ _ c.self.inside.state c.self.inside.open_headers _ c.self.view_is in
    let next = same_keeps _ _ _ _ _ _ _ _ _ _ is refl c.reserve.ensures.items refl in
    let state = next.state in
    search (rules, state_is, state)

pub invariant_of-self-inside-then-is_err-2 : goal.invariant_of-self-inside-then-is_err-2
invariant_of-self-inside-then-is_err-2 c =
    let is = keeps _ _ _ _ _ _ c.self.inside.state c.self.inside.open_headers _ c.self.view_is in
    let held : c.push_open.new.self ≡ c.self.inside.held = search rules in
    let next = same_keeps _ _ _ _ _ _ _ _ _ _ is held c.reserve.ensures.items refl in
    ((c.args.self.now, next.state), (next.opens, tt))

pub returns-then-is_err-2-clause-err : goal.returns-then-is_err-2-clause-err
returns-then-is_err-2-clause-err c =
    let is = keeps _ _ _ _ _ _ c.self.inside.state c.self.inside.open_headers _ c.self.view_is in
    let held : c.push_open.new.self ≡ c.self.inside.held = search rules in
    let next = same_keeps _ _ _ _ _ _ _ _ _ _ is held c.reserve.ensures.items refl in
    let state = next.state in
    search (rules, state_is, state)

pub invariant_of-self-inside-2 : goal.invariant_of-self-inside-2
invariant_of-self-inside-2 c =
    let is = keeps _ _ _ _ _ _ c.self.inside.state c.self.inside.open_headers _ c.self.view_is in
    let added : c.push_reserved.new.self.items ≡ c.self.inside.headers.items ++ (c.len-place.result + 1) ∷ [] = search rules in
    let grown : c.push_open.new.self ≡ c.self.inside.held ++ open_header_held c.args.kind c.args.open_span ∷ [] = search rules in
    let next = opened_keeps _ _ _ _ _ _ _ _ _ c.args.kind c.args.open_span (c.len-place.result + 1) is grown (omega (arith, c.len-place.ensures)) (omega (arith, c.if-place.false)) added in
    ((opened c.args.kind c.args.open_span c.args.self.now, next.state), (next.opens, tt))

pub returns-clause-ok : goal.returns-clause-ok
returns-clause-ok c =
    let is = keeps _ _ _ _ _ _ c.self.inside.state c.self.inside.open_headers _ c.self.view_is in
    let added : c.push_reserved.new.self.items ≡ c.self.inside.headers.items ++ (c.len-place.result + 1) ∷ [] = search rules in
    let grown : c.push_open.new.self ≡ c.self.inside.held ++ open_header_held c.args.kind c.args.open_span ∷ [] = search rules in
    let next = opened_keeps _ _ _ _ _ _ _ _ _ c.args.kind c.args.open_span (c.len-place.result + 1) is grown (omega (arith, c.len-place.ensures)) (omega (arith, c.if-place.false)) added in
    let state = next.state in
    search (rules, state_is, state)

pub returns-clause-room : goal.returns-clause-room
returns-clause-room c =
    let is = keeps _ _ _ _ _ _ c.self.inside.state c.self.inside.open_headers _ c.self.view_is in
    room _ _ _ _ _ _ 1 is.state (omega (arith, c.if-place.false, c.len-place.ensures, length-all c.self.inside.top c.self.inside.held))

pub returns-then-is_err-clause-fault : goal.returns-then-is_err-clause-fault
returns-then-is_err-clause-fault c =
    let is = keeps _ _ _ _ _ _ c.self.inside.state c.self.inside.open_headers _ c.self.view_is in
    inl (refl, room _ _ _ _ _ _ 1 is.state (omega (arith, c.if-place.false, c.len-place.ensures, length-all c.self.inside.top c.self.inside.held)))

pub returns-then-is_err-2-clause-fault : goal.returns-then-is_err-2-clause-fault
returns-then-is_err-2-clause-fault c =
    let is = keeps _ _ _ _ _ _ c.self.inside.state c.self.inside.open_headers _ c.self.view_is in
    inl (refl, room _ _ _ _ _ _ 1 is.state (omega (arith, c.if-place.false, c.len-place.ensures, length-all c.self.inside.top c.self.inside.held)))
