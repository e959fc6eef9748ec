use Rattle.std.proofs.Common.{rules, sym, ◌∙◌, arith}
use Rattle.tt_base.specs.Building.{removed}
use Rattle.tt.specs.OneState.{state_is}
use Rattle.tt.proofs.Steps.{keeps, mark_there}
use Rattle.tt.proofs.NamedKinds.{tokens_long, marked_token_at, removed_marked, gone_marked}
use Rattle.tt.proofs.builder.TopSubtreeBuilder.remove_last_subtree_if_invisible.Goals as goal

pub offset_bounds-tokens-place : goal.offset_bounds-tokens-place
offset_bounds-tokens-place c =
    let is = rw c.in-Some.is at (keeps _ _ _ _ _ _ c.self.inside.state c.self.inside.open_headers _ c.self.view_is) in
    let there = mark_there _ _ _ _ _ _ c.in-Some.place is in
    let long = tokens_long c.tokens.result.now c.self.inside.held c.tokens.ensures in
    omega (arith, there.within, long, c.tokens.type_inv)

pub bounds-tokens-place : goal.bounds-tokens-place
bounds-tokens-place c =
    let is = rw c.in-Some.is at (keeps _ _ _ _ _ _ c.self.inside.state c.self.inside.open_headers _ c.self.view_is) in
    let there = mark_there _ _ _ _ _ _ c.in-Some.place is in
    let long = tokens_long c.tokens.result.now c.self.inside.held c.tokens.ensures in
    omega (arith, there.within, long)

pub invariant_of-self-inside : goal.invariant_of-self-inside
invariant_of-self-inside c =
    let is = rw c.in-Some.is at (keeps _ _ _ _ _ _ c.self.inside.state c.self.inside.open_headers _ c.self.view_is) in
    let there = mark_there _ _ _ _ _ _ c.in-Some.place is in
    let m = marked_token_at _ c.tokens.result.now c.self.inside.held c.self.inside.headers.items c.in-Some.place _ is.opens there c.tokens.ensures in
    let next = removed_marked _ _ _ _ _ _ _ _ is m c.remove_header.new.self (sym c.is_invisible.ensures ∙ c.if-is_invisible.true) c.remove_header.ensures.removed in
    ((removed c.args.self.now, next.state), (next.opens, tt))

pub invariant_of-self-inside-else-is_invisible : goal.invariant_of-self-inside-else-is_invisible
invariant_of-self-inside-else-is_invisible c =
    let is = rw c.in-Some.is at (keeps _ _ _ _ _ _ c.self.inside.state c.self.inside.open_headers _ c.self.view_is) in
    let there = mark_there _ _ _ _ _ _ c.in-Some.place is in
    let m = marked_token_at _ c.tokens.result.now c.self.inside.held c.self.inside.headers.items c.in-Some.place _ is.opens there c.tokens.ensures in
    let next = gone_marked _ _ _ _ _ _ _ _ is m (sym c.is_invisible.ensures ∙ c.if-is_invisible.false) in
    ((removed c.args.self.now, next.state), (next.opens, tt))

pub returns-then-is_invisible : goal.returns-then-is_invisible
returns-then-is_invisible c =
    let is = rw c.in-Some.is at (keeps _ _ _ _ _ _ c.self.inside.state c.self.inside.open_headers _ c.self.view_is) in
    let there = mark_there _ _ _ _ _ _ c.in-Some.place is in
    let m = marked_token_at _ c.tokens.result.now c.self.inside.held c.self.inside.headers.items c.in-Some.place _ is.opens there c.tokens.ensures in
    let next = removed_marked _ _ _ _ _ _ _ _ is m c.remove_header.new.self (sym c.is_invisible.ensures ∙ c.if-is_invisible.true) c.remove_header.ensures.removed in
    let state = next.state in
    search (rules, state_is, state)

pub returns-else-is_invisible : goal.returns-else-is_invisible
returns-else-is_invisible c =
    let is = rw c.in-Some.is at (keeps _ _ _ _ _ _ c.self.inside.state c.self.inside.open_headers _ c.self.view_is) in
    let there = mark_there _ _ _ _ _ _ c.in-Some.place is in
    let m = marked_token_at _ c.tokens.result.now c.self.inside.held c.self.inside.headers.items c.in-Some.place _ is.opens there c.tokens.ensures in
    let next = gone_marked _ _ _ _ _ _ _ _ is m (sym c.is_invisible.ensures ∙ c.if-is_invisible.false) in
    let state = next.state in
    search (rules, state_is, state)
