-- What is ahead at first shows whether the trees have events.
use Rattle.std.proofs.Common.{rules, ◌≡◌, [], subst}
use Rattle.mbe_grammar.specs.declared.derivation.NextEvent.TheVariants as next
use Rattle.mbe_grammar.specs.Derivations.{place}
use Rattle.mbe_grammar.specs.Deriving.{IsNext}
use Rattle.mbe_grammar.proofs.derivation.is_whole.Goals as goal

pub returns-in-End : goal.returns-in-End
returns-in-End c =
    let end : c.in_ok-next_event.field-0 ≡ next.End = search rules in
    let ends : IsNext c.loop-derivation.derivation next.End c.next_event.new.self = subst (λ n. IsNext c.loop-derivation.derivation n c.next_event.new.self) end c.in_ok-next_event.ensures.next in
    let all = c.loop-derivation.invariant.gives [] ends in
    (all.0, c.new-derivation.ensures.gives all.0 all.1)

pub returns-in-Refused : goal.returns-in-Refused
returns-in-Refused c =
    let level = c.in-Refused.field-0 in
    let refused : c.in_ok-next_event.field-0 ≡ next.Refused level = search rules in
    let stops : IsNext c.loop-derivation.derivation (next.Refused level) c.next_event.new.self = subst (λ n. IsNext c.loop-derivation.derivation n c.next_event.new.self) refused c.in_ok-next_event.ensures.next in
    (place level, c.new-derivation.ensures.stops (place level) (c.loop-derivation.invariant.stops (place level) stops))
