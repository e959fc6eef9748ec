use Rattle.std.proofs.Common.{◌≡◌, ◌++◌, ◌≤◌, ◌+◌, inl, inr, length, map, refl, rules, arith, ap, sym, ◌∙◌, length-append}
use Rattle.std.proofs.lemmas.List.{length-map}
use Rattle.tt_base.specs.declared.token_tree.TokenTree.TheVariants as token
use Rattle.tt_base.specs.Building.{extended}
use Rattle.tt_base.specs.Forest.{size}
use Rattle.tt_base.specs.Siblings.{leaves}
use Rattle.tt_base.specs.Unflat.{length-flat}
use Rattle.tt_tables.specs.Held.{whole}
use Rattle.tt_view.proofs.TreeFaults.{flat-leaves}
use Rattle.tt.specs.OneState.{state_is, length-written}
use Rattle.tt.proofs.Growing.{cut_back, room}
use Rattle.tt.proofs.Steps.{keeps, same_keeps, extended_keeps, length-all}
use Rattle.tt.proofs.builder.TopSubtreeBuilder.extend.Goals as goal

pub invariant_of-self-inside : goal.invariant_of-self-inside
invariant_of-self-inside g c =
    let is = keeps _ _ _ _ _ _ c.self.inside.state c.self.inside.open_headers _ c.self.view_is in
    let (given, drained, added, few) = c.in-Ok.ensures.ok in
    let grown = added ∙ ap (λ l. c.self.inside.held ++ map whole l) (sym (flat-leaves given)) in
    let size_is : size (leaves given) ≡ length given = sym (length-flat (leaves given)) ∙ ap length (flat-leaves given) ∙ length-map given token.Leaf in
    let all = length-append c.self.inside.held (map whole (map token.Leaf given)) in
    let counted : length c.self.inside.held + length given ≤ 4294967295 = omega (arith, few, ap length added, all, length-map (map token.Leaf given) whole, length-map given token.Leaf) in
    let next = extended_keeps _ _ _ _ _ _ _ _ (leaves given) is grown (omega (arith, counted, size_is)) in
    ((extended (leaves given) c.args.self.now, next.state), (next.opens, tt))

pub invariant_of-self-inside-in-Err : goal.invariant_of-self-inside-in-Err
invariant_of-self-inside-in-Err g c =
    let is = keeps _ _ _ _ _ _ c.self.inside.state c.self.inside.open_headers _ c.self.view_is in
    let (given, added) = c.in-Err.ensures.err in
    let same : c.truncate.new.self ≡ c.self.inside.held = cut_back _ _ _ _ _ added c.len-len.ensures c.truncate.ensures in
    let next = same_keeps _ _ _ _ _ _ _ _ _ _ is same refl refl in
    ((c.args.self.now, next.state), (next.opens, tt))

pub returns-in-Err-clause-err : goal.returns-in-Err-clause-err
returns-in-Err-clause-err g c =
    let is = keeps _ _ _ _ _ _ c.self.inside.state c.self.inside.open_headers _ c.self.view_is in
    let (given, added) = c.in-Err.ensures.err in
    let same : c.truncate.new.self ≡ c.self.inside.held = cut_back _ _ _ _ _ added c.len-len.ensures c.truncate.ensures in
    let next = same_keeps _ _ _ _ _ _ _ _ _ _ is same refl refl in
    let state = next.state in
    search (rules, state_is, state)

pub returns-in-Err-clause-fault : goal.returns-in-Err-clause-fault
returns-in-Err-clause-fault g c =
    let is = keeps _ _ _ _ _ _ c.self.inside.state c.self.inside.open_headers _ c.self.view_is in
    let held = length-written c.args.self.now.top c.args.self.now.stack in
    let (given, next, rest, yields, why) = c.in-Err.ensures.fault in
    let all = length-all c.self.inside.top c.self.inside.held in (
      given,
      next,
      rest,
      yields,
      elim why [
        | inl memory ↦ inl (memory.0, omega (arith, ap length is.state.list, held, all, memory.1))
        | inr many ↦ inr (many.0, omega (arith, ap length is.state.list, held, all, many.1))
      ],
    )

pub returns-in-Ok-clause-ok : goal.returns-in-Ok-clause-ok
returns-in-Ok-clause-ok g c =
    let is = keeps _ _ _ _ _ _ c.self.inside.state c.self.inside.open_headers _ c.self.view_is in
    let (given, drained, added, few) = c.in-Ok.ensures.ok in
    let grown = added ∙ ap (λ l. c.self.inside.held ++ map whole l) (sym (flat-leaves given)) in
    let size_is : size (leaves given) ≡ length given = sym (length-flat (leaves given)) ∙ ap length (flat-leaves given) ∙ length-map given token.Leaf in
    let all = length-append c.self.inside.held (map whole (map token.Leaf given)) in
    let counted : length c.self.inside.held + length given ≤ 4294967295 = omega (arith, few, ap length added, all, length-map (map token.Leaf given) whole, length-map given token.Leaf) in
    let next = extended_keeps _ _ _ _ _ _ _ _ (leaves given) is grown (omega (arith, counted, size_is)) in
    let state = next.state in
    (given, drained, room _ _ _ _ _ _ (length given) is.state (omega (arith, counted, length-all c.self.inside.top c.self.inside.held)), search (rules, state_is, state))
