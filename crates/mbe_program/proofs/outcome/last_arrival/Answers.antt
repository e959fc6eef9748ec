use Rattle.std.proofs.Common.{rules, ◌≡◌, ◌<◌, ◌≤◌, inl, inr, map, length, subst, arith}
use Rattle.std.proofs.lemmas.List.{length-map}
use Rattle.mbe_matcher.specs.Marks.{Note}
use Rattle.mbe_program.specs.Cells.{IsCell}
use Rattle.mbe_program.specs.Searching.{coming_of}
use Rattle.mbe_program.specs.Ways.{Coming, IsAt}
use Rattle.mbe_program.specs.declared.cell.Cell.{Cell}
use Rattle.mbe_program.proofs.Fewest.{logged_at}
use Rattle.mbe_program.proofs.Paths.{at_once, at_within}
use Rattle.mbe_program.proofs.Results.{less_or_not}
use Rattle.mbe_program.proofs.outcome.last_arrival.Goals as goal

pub returns-then-is_last : goal.returns-then-is_last
returns-then-is_last c =
    let log = c.args.log.now in
    let arrival = c.index-log-number.result in
    let less : c.loop-number.number < length log = omega arith in
    let last : IsCell arrival.cell 0 0 = search rules in
    (less, (coming_of arrival, logged_at log c.loop-number.number arrival less c.index-log-number.is, last))

pub loop-number-preserved : goal.loop-number-preserved
loop-number-preserved c =
    let log = c.args.log.now in
    let number = c.loop-number.number in
    let arrival = c.index-log-number.result in
    let less : number < length log = omega arith in
    let none : IsCell arrival.cell 0 0 → ⊥ = search rules in
    let own = logged_at log number arrival less c.index-log-number.is in
    λ k within ends.
    elim (less_or_not k number) [
      | inl before ↦ c.loop-number.invariant k before ends
      | inr behind ↦
          let same : number ≡ k = omega (arith, within, behind) in
          let both = at_once Cell Note (map coming_of log) k ends.0 (coming_of arrival) ends.1 (subst (λ k. IsAt Cell Note (map coming_of log) k (coming_of arrival)) same own) in
          none (subst (λ (it : Coming Cell Note). IsCell it.cell 0 0) both ends.2)
    ]

pub returns : goal.returns
returns c =
    let log = c.args.log.now in
    let over : length log ≤ c.loop-number.number = omega arith in
    λ k ends.
    let within = at_within Cell Note (map coming_of log) k ends.0 ends.1 in
    c.loop-number.invariant k (omega (arith, within, over, length-map log coming_of)) ends
