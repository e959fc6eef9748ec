use Rattle.std.proofs.Common.{rules, ◌≡◌, ◌<◌, ◌≤◌, ◌∷◌, ◌++◌, [], map, take, length, ap, subst, sym, ◌∙◌, arith}
use Rattle.std.proofs.lemmas.List.{map_more, take_all}
use Rattle.std.specs.Prelude.{min}
use Rattle.mbe_program.specs.Positions.{table_of}
use Rattle.mbe_program.specs.Searching.{coming_of, IsFewest}
use Rattle.mbe_program.proofs.Fewest.{fewer}
use Rattle.mbe_program.proofs.outcome.fewest_left.Goals as goal

pub loop-arrival-preserved : goal.loop-arrival-preserved
loop-arrival-preserved c =
    let log = c.args.log.now in
    let table = table_of c.args.positions.now in
    let most = c.args.most in
    let index = c.loop-arrival.arrival-index in
    let arrival = c.arrival-item.result in
    let less : index < length log = omega arith in
    let more = map_more coming_of log index arrival less in
    let here = ap (λ it. map coming_of (take index log) ++ coming_of it ∷ []) (sym c.arrival-item.is) in
    let left : c.left.result ≡ table.left arrival.cell.position = search rules in
    let now : c.min-fewest.result ≡ min c.loop-arrival.fewest c.left.result = search rules in
    let one = fewer table most c.loop-arrival.fewest (map coming_of (take index log)) (coming_of arrival) c.loop-arrival.invariant in
    subst (λ its. IsFewest table most its c.min-fewest.result) (sym (more ∙ here))
    (subst (IsFewest table most (map coming_of (take index log) ++ coming_of arrival ∷ [])) (sym (now ∙ ap (min c.loop-arrival.fewest) left)) one)

pub returns : goal.returns
returns c =
    let log = c.args.log.now in
    let over : length log ≤ c.loop-arrival.arrival-index = omega arith in
    subst (λ its. IsFewest (table_of c.args.positions.now) c.args.most (map coming_of its) c.loop-arrival.fewest) (take_all c.loop-arrival.arrival-index log over) c.loop-arrival.invariant
