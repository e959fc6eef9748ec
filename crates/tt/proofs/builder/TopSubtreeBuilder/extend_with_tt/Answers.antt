use Rattle.std.proofs.Common.{◌≡◌, ◌≤◌, ◌<◌, ◌+◌, inl, inr, cond, length, refl, arith, rules, ap}
use Rattle.tt_base.specs.Building.{extended, tokens_held}
use Rattle.tt_base.specs.Forest.{size}
use Rattle.tt_view.specs.Views.{trees_of}
use Rattle.tt.specs.OneState.{state_is, length-written}
use Rattle.tt.proofs.Growing.{room}
use Rattle.tt.proofs.Steps.{keeps, maybe_keeps, length-all}
use Rattle.tt.proofs.builder.TopSubtreeBuilder.extend_with_tt.Goals as goal

pub returns-then-len-room-clause-fault : goal.returns-then-len-room-clause-fault
returns-then-len-room-clause-fault c =
    let is = keeps _ _ _ _ _ _ c.self.inside.state c.self.inside.open_headers _ c.self.view_is in
    let sized : c.len-2.result ≡ size (trees_of c.args.trees) = search rules in
    let fits : length c.self.inside.held ≤ 4294967295 = omega (arith, is.state.few, length-all c.self.inside.top c.self.inside.held) in
    let many : 4294967295 < tokens_held c.args.self.now.stack + size (trees_of c.args.trees) =
    omega (arith, c.len.ensures, sized, ap length is.state.list, length-written c.args.self.now.top c.args.self.now.stack, length-all c.self.inside.top c.self.inside.held, c.if-len-room.true, c.saturating_sub-room.ensures) in
    inr (refl, many)

pub add_trees-requires : goal.add_trees-requires
add_trees-requires c =
    let is = keeps _ _ _ _ _ _ c.self.inside.state c.self.inside.open_headers _ c.self.view_is in
    let sized : c.len-2.result ≡ size (trees_of c.args.trees) = search rules in
    let fits : length c.self.inside.held ≤ 4294967295 = omega (arith, is.state.few, length-all c.self.inside.top c.self.inside.held) in
    omega (arith, c.len.ensures, sized, c.if-len-room.false, c.saturating_sub-room.ensures, fits)

pub invariant_of-self-inside : goal.invariant_of-self-inside
invariant_of-self-inside c =
    let is = keeps _ _ _ _ _ _ c.self.inside.state c.self.inside.open_headers _ c.self.view_is in
    let sized : c.len-2.result ≡ size (trees_of c.args.trees) = search rules in
    let fits : length c.self.inside.held ≤ 4294967295 = omega (arith, is.state.few, length-all c.self.inside.top c.self.inside.held) in
    let few : length c.self.inside.held + size (trees_of c.args.trees) ≤ 4294967295 = omega (arith, c.len.ensures, sized, c.if-len-room.false, c.saturating_sub-room.ensures, fits) in
    let next = maybe_keeps c.add_trees.result _ _ _ _ _ _ _ _ (trees_of c.args.trees) is c.add_trees.ensures few in
    ((cond c.add_trees.result (extended (trees_of c.args.trees) c.args.self.now) c.args.self.now, next.state), (next.opens, tt))

pub returns-then-not-add_trees-clause-err : goal.returns-then-not-add_trees-clause-err
returns-then-not-add_trees-clause-err c =
    let is = keeps _ _ _ _ _ _ c.self.inside.state c.self.inside.open_headers _ c.self.view_is in
    let sized : c.len-2.result ≡ size (trees_of c.args.trees) = search rules in
    let fits : length c.self.inside.held ≤ 4294967295 = omega (arith, is.state.few, length-all c.self.inside.top c.self.inside.held) in
    let few : length c.self.inside.held + size (trees_of c.args.trees) ≤ 4294967295 = omega (arith, c.len.ensures, sized, c.if-len-room.false, c.saturating_sub-room.ensures, fits) in
    let next = maybe_keeps c.add_trees.result _ _ _ _ _ _ _ _ (trees_of c.args.trees) is c.add_trees.ensures few in
    let same : cond c.add_trees.result (extended (trees_of c.args.trees) c.args.self.now) c.args.self.now ≡ c.args.self.now =
    ap (λ b. cond b (extended (trees_of c.args.trees) c.args.self.now) c.args.self.now) c.if-not-add_trees.true in
    let state = rw same at next.state in
    search (rules, state_is, state)

pub returns-clause-ok : goal.returns-clause-ok
returns-clause-ok c =
    let is = keeps _ _ _ _ _ _ c.self.inside.state c.self.inside.open_headers _ c.self.view_is in
    let sized : c.len-2.result ≡ size (trees_of c.args.trees) = search rules in
    let fits : length c.self.inside.held ≤ 4294967295 = omega (arith, is.state.few, length-all c.self.inside.top c.self.inside.held) in
    let few : length c.self.inside.held + size (trees_of c.args.trees) ≤ 4294967295 = omega (arith, c.len.ensures, sized, c.if-len-room.false, c.saturating_sub-room.ensures, fits) in
    let next = maybe_keeps c.add_trees.result _ _ _ _ _ _ _ _ (trees_of c.args.trees) is c.add_trees.ensures few in
    let same : cond c.add_trees.result (extended (trees_of c.args.trees) c.args.self.now) c.args.self.now ≡ extended (trees_of c.args.trees) c.args.self.now =
    ap (λ b. cond b (extended (trees_of c.args.trees) c.args.self.now) c.args.self.now) c.if-not-add_trees.false in
    let state = rw same at next.state in
    search (rules, state_is, state)

pub returns-clause-room : goal.returns-clause-room
returns-clause-room c =
    let is = keeps _ _ _ _ _ _ c.self.inside.state c.self.inside.open_headers _ c.self.view_is in
    let sized : c.len-2.result ≡ size (trees_of c.args.trees) = search rules in
    let fits : length c.self.inside.held ≤ 4294967295 = omega (arith, is.state.few, length-all c.self.inside.top c.self.inside.held) in
    room _ _ _ _ _ _ (size (trees_of c.args.trees)) is.state (omega (arith, c.len.ensures, sized, c.if-len-room.false, c.saturating_sub-room.ensures, length-all c.self.inside.top c.self.inside.held, fits))

pub returns-then-not-add_trees-clause-fault : goal.returns-then-not-add_trees-clause-fault
returns-then-not-add_trees-clause-fault c =
    let is = keeps _ _ _ _ _ _ c.self.inside.state c.self.inside.open_headers _ c.self.view_is in
    let sized : c.len-2.result ≡ size (trees_of c.args.trees) = search rules in
    let fits : length c.self.inside.held ≤ 4294967295 = omega (arith, is.state.few, length-all c.self.inside.top c.self.inside.held) in
    inl (refl, room _ _ _ _ _ _ (size (trees_of c.args.trees)) is.state (omega (arith, c.len.ensures, sized, c.if-len-room.false, c.saturating_sub-room.ensures, length-all c.self.inside.top c.self.inside.held, fits)))
