-- An entry more is passed.
use Rattle.std.proofs.Common.{rules, ◌≡◌, ◌+◌, ◌<◌, length, suc, [], ◌∷◌, ◌++◌, Some, None, reverse, sym, ap, subst, ◌∙◌, append_assoc, append-nil, arith}
use Rattle.std.specs.Prelude.{slice_get, IfSome}
use Rattle.mbe_grammar.specs.Deriving.{left_by, plain_event}
use Rattle.mbe_grammar.proofs.Ahead.{brings_none, brings_more, plain_passed}
use Rattle.mbe_grammar.proofs.derivation.Derivation.pass_plain.Goals as goal

pub loop-event-init : goal.loop-event-init
loop-event-init c =
    let it = c.args.self.now in
    record {
      passed = [];
      items = sym (append-nil c.reserve.new.self.items);
      brings = brings_none it.table.rules.now it.level (left_by it.level it.log.items it.inner (reverse it.around.items));
      room = omega (arith, c.in_ok-reserve.ensures);
    }

pub loop-event-preserved : goal.loop-event-preserved
loop-event-preserved c =
    let it = c.args.self.now in
    let l = c.loop-event in
    let older = reverse it.around.items in
    let one = c.in-Some.event in
    let is : c.plain_event.result ≡ Some one = search rules in
    let none : it.level ≡ None = search rules in
    let more : c.push_reserved.new.self.items ≡ l.events.items ++ one ∷ [] = search rules in
    let slice : c.deref.result.now ≡ it.log.items = search rules in
    let plain : plain_event (slice_get it.log.items l.at) ≡ Some one = subst (λ xs. plain_event (slice_get xs l.at) ≡ Some one) slice (sym c.plain_event.ensures.event ∙ is) in
    let within : l.at < length it.log.items = subst (λ xs. l.at < length xs) slice (subst (λ r. IfSome r (λ _. l.at < length c.deref.result.now)) is c.plain_event.ensures.within) in
    let one_more : l.at + 1 ≡ suc l.at = omega arith in
    let passed = plain_passed it.table.rules.now it.log.items it.inner.since l.at (l.at + 1) it.inner.stop older one_more it.level none one plain in
    record {
      passed = l.invariant.passed ++ one ∷ [];
      items = more ∙ ap (λ t. t ++ one ∷ []) l.invariant.items ∙ append_assoc c.reserve.new.self.items l.invariant.passed (one ∷ []);
      brings = brings_more it.table.rules.now it.level it.level it.level (left_by it.level it.log.items it.inner older)
          (left_by it.level it.log.items (record { since = it.inner.since; next = l.at; stop = it.inner.stop }) older)
          (left_by it.level it.log.items (record { since = it.inner.since; next = l.at + 1; stop = it.inner.stop }) older) l.invariant.passed one l.invariant.brings passed;
      room = omega (arith, l.invariant.room, within, c.push_reserved.ensures.len, c.push_reserved.ensures.capacity);
    }

pub returns : goal.returns
returns c =
    let it = c.loop-event.invariant in
    let same : c.reserve.new.self.items ≡ c.args.events.now.items = search rules in
    (it.passed, it.items ∙ ap (λ t. t ++ it.passed) same, it.brings.0, it.brings.1, it.brings.2)

pub push_reserved-requires : goal.push_reserved-requires
push_reserved-requires c =
    let it = c.args.self.now in
    let l = c.loop-event in
    let slice : c.deref.result.now ≡ it.log.items = search rules in
    let is : c.plain_event.result ≡ Some c.in-Some.event = search rules in
    let within : l.at < length it.log.items = subst (λ xs. l.at < length xs) slice (subst (λ r. IfSome r (λ _. l.at < length c.deref.result.now)) is c.plain_event.ensures.within) in
    omega (arith, l.invariant.room, within)

pub loop-event-smaller : goal.loop-event-smaller
loop-event-smaller c =
    let it = c.args.self.now in
    let l = c.loop-event in
    let slice : c.deref.result.now ≡ it.log.items = search rules in
    let is : c.plain_event.result ≡ Some c.in-Some.event = search rules in
    let within : l.at < length it.log.items = subst (λ xs. l.at < length xs) slice (subst (λ r. IfSome r (λ _. l.at < length c.deref.result.now)) is c.plain_event.ensures.within) in
    omega (arith, within)
