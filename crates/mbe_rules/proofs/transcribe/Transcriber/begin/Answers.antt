use Rattle.std.proofs.Common.{rules, ◌≡◌, ◌-◌, ◌++◌, ◌∷◌, [], suc, Ok, Err, map, reverse, refl, ap, ap₂, sym, subst, ◌∙◌, arith}
use Rattle.std.proofs.lemmas.List.{reverse-reverse, drop-map}
use Rattle.mbe_rules.specs.declared.counting.Count.TheVariants.{Unknown}
use Rattle.mbe_rules.specs.declared.taken.Round.{Round}
use Rattle.mbe_rules.specs.Counting.{counted_all, rounds_by, uses_before, kind_before}
use Rattle.mbe_rules.specs.Transcribing.{counts_of}
use Rattle.mbe_rules.specs.Parts.{bit_of}
use Rattle.mbe_rules.specs.Rounds.{binding_in, dones}
use Rattle.mbe_rules.specs.Filling.{bound_here, bits_from, most_of, Goes, IsStop}
use Rattle.mbe_rules.specs.Writing.{written_by, finished}
use Rattle.mbe_rules.proofs.Repeating.{asked}
use Rattle.mbe_rules.proofs.Stepping.{none_steps, begin_steps, begin_stops}
use Rattle.mbe_rules.proofs.transcribe.Transcriber.begin.Goals as goal

pub returns-in_err-count-clause-err : goal.returns-in_err-count-clause-err
returns-in_err-count-clause-err c =
    let old = c.args.self.now in
    let bits = map bit_of c.args.parts.now in
    let left = bits_from c.args.parts.now c.args.body in
    let failed : c.from_residual.result ≡ Err c.in_err-count.field-0.0 = search rules in
    let (fault, is_fault, answer) = c.in_err-count.ensures.err in
    rw failed
    (λ whole levels are is.
    let asks : asked c.args.at (bound_here whole (reverse old.rounds.items)) left ≡ rounds_by c.args.at c.scan-scanned.result.kind c.scan-scanned.result.count =
    ap (λ l. rounds_by c.args.at (kind_before 0 left) (counted_all (counts_of (binding_in (dones l) whole) (uses_before 0 left)) Unknown)) (reverse-reverse old.rounds.items ∙ sym c.deref.ensures.value)
    ∙ ap₂ (rounds_by c.args.at) (sym c.scan-scanned.ensures.kind) (sym (c.scan-scanned.ensures.count whole are)) in
    subst (IsStop (most_of old) (finished levels (written_by old))) (sym answer) (begin_stops bits whole levels left old c.args.at fault is (asks ∙ is_fault)))

pub returns-then-count-eq0-clause-ok : goal.returns-then-count-eq0-clause-ok
returns-then-count-eq0-clause-ok c whole levels are is =
    let old = c.args.self.now in
    let bits = map bit_of c.args.parts.now in
    let left = bits_from c.args.parts.now c.args.body in
    let asks : asked c.args.at (bound_here whole (reverse old.rounds.items)) left ≡ rounds_by c.args.at c.scan-scanned.result.kind c.scan-scanned.result.count =
    ap (λ l. rounds_by c.args.at (kind_before 0 left) (counted_all (counts_of (binding_in (dones l) whole) (uses_before 0 left)) Unknown)) (reverse-reverse old.rounds.items ∙ sym c.deref.ensures.value)
    ∙ ap₂ (rounds_by c.args.at) (sym c.scan-scanned.ensures.kind) (sym (c.scan-scanned.ensures.count whole are)) in
    let none : c.in_ok-count.count ≡ 0 = search rules in
    let answer : rounds_by c.args.at c.scan-scanned.result.kind c.scan-scanned.result.count ≡ Ok 0 = c.in_ok-count.ensures.ok ∙ ap Ok none in
    subst (Goes bits whole levels old old) (sym c.scan-scanned.ensures.behind) (none_steps bits whole levels left old old c.args.at is (asks ∙ answer) refl)

pub returns-clause-ok : goal.returns-clause-ok
returns-clause-ok c whole levels are is =
    let old = c.args.self.now in
    let bits = map bit_of c.args.parts.now in
    let left = bits_from c.args.parts.now c.args.body in
    let asks : asked c.args.at (bound_here whole (reverse old.rounds.items)) left ≡ rounds_by c.args.at c.scan-scanned.result.kind c.scan-scanned.result.count =
    ap (λ l. rounds_by c.args.at (kind_before 0 left) (counted_all (counts_of (binding_in (dones l) whole) (uses_before 0 left)) Unknown)) (reverse-reverse old.rounds.items ∙ sym c.deref.ensures.value)
    ∙ ap₂ (rounds_by c.args.at) (sym c.scan-scanned.ensures.kind) (sym (c.scan-scanned.ensures.count whole are)) in
    let n = c.in_ok-count.count - 1 in
    let some : c.in_ok-count.count ≡ suc n = omega (arith, c.if-count-eq0.false) in
    let answer : rounds_by c.args.at c.scan-scanned.result.kind c.scan-scanned.result.count ≡ Ok (suc n) = c.in_ok-count.ensures.ok ∙ ap Ok some in
    let begun : Round = record { body = c.args.body; done = 0; last = n } in
    let pushed : c.push.new.self.items ≡ old.rounds.items ++ begun ∷ [] = search rules in
    begin_steps bits whole levels left old _ c.args.at n c.args.body is (asks ∙ answer) (drop-map bit_of c.args.body c.args.parts.now) refl refl refl pushed
