use Rattle.std.proofs.Common.{rules, ◌≡◌, ◌+◌, ◌-◌, ◌<◌, ◌++◌, [], List, suc, map, reverse, ap, subst, sym, arith}
use Rattle.mbe_matcher.specs.Marks.{Note, note_of}
use Rattle.mbe_matcher.specs.declared.mark.Mark.{Mark}
use Rattle.mbe_program.specs.Moving.{notes_of_mark}
use Rattle.mbe_program.specs.Searching.{coming_of}
use Rattle.mbe_program.specs.Ways.{Traces}
use Rattle.mbe_program.specs.declared.cell.Cell.{Cell}
use Rattle.mbe_program.proofs.Fewest.{logged_at}
use Rattle.mbe_program.proofs.Tracing.{LeadsOn, leads_to_itself, leads_back, leads_all}
use Rattle.mbe_program.proofs.outcome.marks_to.Goals as goal

pub loop-number-init : goal.loop-number-init
loop-number-init c =
    let log = map coming_of c.args.log.now in
    let last = suc c.args.last in
    let number : last ≡ c.args.last + 1 = omega arith in
    let none : [] ≡ map note_of (reverse c.new-marks.result.items) = ap (λ (its : List Mark). map note_of (reverse its)) (sym c.new-marks.ensures.items) in
    let within = c.requires.within in (
      subst (λ n. LeadsOn Cell Note log n last (map note_of (reverse c.new-marks.result.items))) number (subst (LeadsOn Cell Note log last last) none (leads_to_itself Cell Note log last)),
      omega (arith, within),
    )

pub loop-number-smaller : goal.loop-number-smaller
loop-number-smaller c =
    let n = c.loop-number.number in
    let some : 0 < n = search rules in
    let upto = c.loop-number.invariant.1 in
    let arrival = c.index-log-number.result in
    let earlier = c.requires.in_order (n - 1) (coming_of arrival) (logged_at c.args.log.now (n - 1) arrival (omega (arith, some, upto)) c.index-log-number.is) in
    omega (arith, earlier, some)

pub loop-number-preserved : goal.loop-number-preserved
loop-number-preserved c =
    let n = c.loop-number.number in
    let log = map coming_of c.args.log.now in
    let last = suc c.args.last in
    let some : 0 < n = search rules in
    let upto = c.loop-number.invariant.1 in
    let arrival = c.index-log-number.result in
    let there = logged_at c.args.log.now (n - 1) arrival (omega (arith, some, upto)) c.index-log-number.is in
    let earlier = c.requires.in_order (n - 1) (coming_of arrival) there in
    let back = leads_back Cell Note log (n - 1) n last (coming_of arrival) (map note_of (reverse c.loop-number.marks.items)) (omega (arith, some)) there c.loop-number.invariant.0 in
    let added : map note_of (reverse c.add_mark.new.marks.items) ≡ notes_of_mark arrival.mark ++ map note_of (reverse c.loop-number.marks.items) = c.in_ok-add_mark.ensures in
    (subst (LeadsOn Cell Note log arrival.before last) (sym added) back, omega (arith, earlier, some, upto))

pub returns : goal.returns
returns c =
    let log = map coming_of c.args.log.now in
    let none : c.loop-number.number ≡ 0 = search rules in
    let turned : map note_of (reverse c.loop-number.marks.items) ≡ map note_of c.reverse.new.self.items = ap (λ (its : List Mark). map note_of its) (sym c.reverse.ensures.items) in
    let all = leads_all Cell Note log c.loop-number.number (suc c.args.last) (map note_of (reverse c.loop-number.marks.items)) none c.loop-number.invariant.0 in
    (all.0, subst (Traces Cell Note log all.0 (suc c.args.last)) turned all.1)
