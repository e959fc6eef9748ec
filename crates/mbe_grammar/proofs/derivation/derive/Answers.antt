-- Events more are collected.
use Rattle.std.proofs.Common.{rules, ◌≡◌, [], ◌∷◌, ◌++◌, sym, subst, ap, ◌∙◌, append_assoc, append-nil, arith}
use Rattle.tt.specs.Views.{trees_of}
use Rattle.mbe_grammar.specs.declared.derivation.NextEvent.TheVariants as next
use Rattle.mbe_grammar.specs.Derivations.{Derives, place}
use Rattle.mbe_grammar.specs.Deriving.{IsNext}
use Rattle.mbe_grammar.proofs.derivation.derive.Goals as goal

pub loop-derivation-preserved : goal.loop-derivation-preserved
loop-derivation-preserved c =
    let old = c.loop-derivation.events.items in
    let on = c.in_ok-pass_plain.ensures in
    let one = c.in-Event.event in
    let is : c.in_ok-event.field-0 ≡ next.Event one = search rules in
    let passed : IsNext c.pass_plain.new.self (next.Event one) c.next_event.new.self = subst (λ e. IsNext c.pass_plain.new.self e c.next_event.new.self) is c.in_ok-event.ensures.next in
    let more : c.put.new.list.items ≡ c.pass_plain.new.events.items ++ one ∷ [] = search rules in
    record {
      gives = λ events g. subst (Derives c.args.table.rules.now c.args.at (trees_of c.args.trees))
          (sym (ap (λ l. l ++ events) (more ∙ ap (λ l. l ++ one ∷ []) on.1) ∙ append_assoc (old ++ on.0) (one ∷ []) events ∙ append_assoc old on.0 (one ∷ events)))
          (c.loop-derivation.invariant.gives (on.0 ++ one ∷ events) (on.2 (one ∷ events) (passed.0 events g)));
      stops = λ at s. c.loop-derivation.invariant.stops at (on.3 at (passed.1 at s));
    }

pub loop-derivation-smaller : goal.loop-derivation-smaller
loop-derivation-smaller c =
    let one = c.in-Event.event in
    let is : c.in_ok-event.field-0 ≡ next.Event one = search rules in
    let passed : IsNext c.pass_plain.new.self (next.Event one) c.next_event.new.self = subst (λ e. IsNext c.pass_plain.new.self e c.next_event.new.self) is c.in_ok-event.ensures.next in
    omega (arith, c.in_ok-pass_plain.ensures.4, passed.2)

pub returns-in-End : goal.returns-in-End
returns-in-End c =
    let old = c.loop-derivation.events.items in
    let on = c.in_ok-pass_plain.ensures in
    let is : c.in_ok-event.field-0 ≡ next.End = search rules in
    let ends : IsNext c.pass_plain.new.self next.End c.next_event.new.self = subst (λ e. IsNext c.pass_plain.new.self e c.next_event.new.self) is c.in_ok-event.ensures.next in
    subst (Derives c.args.table.rules.now c.args.at (trees_of c.args.trees)) (sym (on.1 ∙ ap (λ l. old ++ l) (sym (append-nil on.0))))
    (c.loop-derivation.invariant.gives (on.0 ++ []) (on.2 [] ends))

pub returns-in-Refused : goal.returns-in-Refused
returns-in-Refused c =
    let level = c.in-Refused.level in
    let is : c.in_ok-event.field-0 ≡ next.Refused level = search rules in
    let stops : IsNext c.pass_plain.new.self (next.Refused level) c.next_event.new.self = subst (λ e. IsNext c.pass_plain.new.self e c.next_event.new.self) is c.in_ok-event.ensures.next in
    c.loop-derivation.invariant.stops (place level) (c.in_ok-pass_plain.ensures.3 (place level) stops)
