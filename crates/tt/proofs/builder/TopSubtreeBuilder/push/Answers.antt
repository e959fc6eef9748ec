use Rattle.std.proofs.Common.{◌≡◌, ◌++◌, ◌∷◌, [], inl, inr, refl, arith, rules}
use Rattle.tt_base.specs.declared.token_tree.TokenTree.TheVariants as token
use Rattle.tt_base.specs.Forest.{leaf, end}
use Rattle.tt_tables.specs.Held.{whole}
use Rattle.tt.specs.OneState.{state_is}
use Rattle.tt.proofs.Growing.{full, room}
use Rattle.tt.proofs.Steps.{keeps, same_keeps, extended_keeps, pushed_or_same, length-all}
use Rattle.tt.proofs.builder.TopSubtreeBuilder.push.Goals as goal

pub returns-then-len-clause-fault : goal.returns-then-len-clause-fault
returns-then-len-clause-fault c =
    let is = keeps _ _ _ _ _ _ c.self.inside.state c.self.inside.open_headers _ c.self.view_is in
    inr (refl, full _ _ _ _ _ _ is.state (omega (arith, c.if-len.true, c.len.ensures, length-all c.self.inside.top c.self.inside.held)))

pub invariant_of-self-inside : goal.invariant_of-self-inside
invariant_of-self-inside c =
    let is = keeps _ _ _ _ _ _ c.self.inside.state c.self.inside.open_headers _ c.self.view_is in
    let (s, next) = pushed_or_same _ _ _ _ _ _ _ _ c.args.leaf c.push_leaf.result is c.push_leaf.ensures.ok c.push_leaf.ensures.err (omega (arith, c.if-len.false, c.len.ensures)) in
    ((s, next.state), (next.opens, tt))

pub returns-then-is_err-clause-err : goal.returns-then-is_err-clause-err
returns-then-is_err-clause-err c =
    let is = keeps _ _ _ _ _ _ c.self.inside.state c.self.inside.open_headers _ c.self.view_is in
    let held : c.push_leaf.new.self ≡ c.self.inside.held = search rules in
    let next = same_keeps _ _ _ _ _ _ _ _ _ _ is held refl refl in
    let state = next.state in
    search (rules, state_is, state)

pub returns-clause-ok : goal.returns-clause-ok
returns-clause-ok c =
    let is = keeps _ _ _ _ _ _ c.self.inside.state c.self.inside.open_headers _ c.self.view_is in
    let grown : c.push_leaf.new.self ≡ c.self.inside.held ++ whole (token.Leaf c.args.leaf) ∷ [] = search rules in
    let next = extended_keeps _ _ _ _ _ _ _ _ (leaf c.args.leaf end) is grown (omega (arith, c.if-len.false, c.len.ensures)) in
    let state = next.state in
    search (rules, state_is, state)

pub returns-clause-room : goal.returns-clause-room
returns-clause-room c =
    let is = keeps _ _ _ _ _ _ c.self.inside.state c.self.inside.open_headers _ c.self.view_is in
    room _ _ _ _ _ _ 1 is.state (omega (arith, c.if-len.false, c.len.ensures, length-all c.self.inside.top c.self.inside.held))

pub returns-then-is_err-clause-fault : goal.returns-then-is_err-clause-fault
returns-then-is_err-clause-fault c =
    let is = keeps _ _ _ _ _ _ c.self.inside.state c.self.inside.open_headers _ c.self.view_is in
    inl (refl, room _ _ _ _ _ _ 1 is.state (omega (arith, c.if-len.false, c.len.ensures, length-all c.self.inside.top c.self.inside.held)))
