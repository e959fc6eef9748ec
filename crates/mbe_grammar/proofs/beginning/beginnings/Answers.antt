-- One event more is passed.
use Rattle.std.proofs.Common.{rules, ◌≡◌, [], ◌∷◌, ◌++◌, sym, subst, ap, ap₂, ◌∙◌, append_assoc, append-nil, map}
use Rattle.mbe_grammar.specs.declared.derivation.NextEvent.TheVariants as next
use Rattle.mbe_grammar.specs.Beginnings.{beginning_of, beginnings, begun, cursor_of, past_event}
use Rattle.mbe_grammar.specs.Derivations.{place}
use Rattle.mbe_grammar.specs.Deriving.{IsNext}
use Rattle.mbe_grammar.proofs.beginning.beginnings.Goals as goal

pub loop-found-init : goal.loop-found-init
loop-found-init c =
    record {
      gives = λ more g. (
        more,
        g,
        ap (beginnings c.args.wanted.now more) (sym c.first-cursor.ensures)
            ∙ ap (λ l. map beginning_of l ++ beginnings c.args.wanted.now more (cursor_of c.first-cursor.result)) (sym c.new-found.ensures.items),
      );
      stops = λ at s. s;
    }

pub loop-found-preserved : goal.loop-found-preserved
loop-found-preserved c =
    let wanted = c.args.wanted.now in
    let one = c.in-Event.event in
    let here = cursor_of c.loop-found.cursor in
    let old = map beginning_of c.loop-found.found.items in
    let is : c.in_ok-event.field-0 ≡ next.Event one = search rules in
    let passed : IsNext c.loop-found.derivation (next.Event one) c.next_event.new.self = subst (λ e. IsNext c.loop-found.derivation e c.next_event.new.self) is c.in_ok-event.ensures.next in
    let added : map beginning_of c.add_begun.new.found.items ≡ old ++ begun wanted one here = search rules in
    let moved : cursor_of c.pass_event.new.self ≡ past_event one here = search rules in
    record {
      gives = λ more g.
          let all = c.loop-found.invariant.gives (one ∷ more) (passed.0 more g) in (
            all.0,
            all.1,
            all.2 ∙ sym (append_assoc old (begun wanted one here) (beginnings wanted more (past_event one here)))
                ∙ ap₂ (λ found at. found ++ beginnings wanted more at) (sym added) (sym moved),
          );
      stops = λ at s. c.loop-found.invariant.stops at (passed.1 at s);
    }

pub returns-in-End : goal.returns-in-End
returns-in-End c =
    let is : c.in_ok-event.field-0 ≡ next.End = search rules in
    let ends : IsNext c.loop-found.derivation next.End c.next_event.new.self = subst (λ e. IsNext c.loop-found.derivation e c.next_event.new.self) is c.in_ok-event.ensures.next in
    let all = c.loop-found.invariant.gives [] ends in
    (all.0, c.new-derivation.ensures.gives all.0 all.1, sym (all.2 ∙ append-nil (map beginning_of c.loop-found.found.items)))

pub returns-in-Refused : goal.returns-in-Refused
returns-in-Refused c =
    let level = c.in-Refused.field-0 in
    let is : c.in_ok-event.field-0 ≡ next.Refused level = search rules in
    let stops : IsNext c.loop-found.derivation (next.Refused level) c.next_event.new.self = subst (λ e. IsNext c.loop-found.derivation e c.next_event.new.self) is c.in_ok-event.ensures.next in
    (place level, c.new-derivation.ensures.stops (place level) (c.loop-found.invariant.stops (place level) stops))
