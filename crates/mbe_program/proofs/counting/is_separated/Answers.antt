use Rattle.std.proofs.Common.{rules, ◌≡◌, ◌-◌, ◌<◌, suc, get_or, length, sym, ◌∙◌, arith}
use Rattle.mbe_program.proofs.CountSteps.{separated_at}
use Rattle.mbe_program.proofs.counting.is_separated.Goals as goal

pub returns-in-Some : goal.returns-in-Some
returns-in-Some c =
    let program = c.args.program.now in
    let again = c.args.again in
    let index = c.saturating_sub-index.result in
    let same : index ≡ length program - suc again = omega (arith, c.saturating_sub.ensures, c.saturating_sub-index.ensures) in
    let it = c.in-Some.instruction.now in
    let less : index < length program = search rules in
    let is : it ≡ get_or program index it = search rules in
    c.starts_later.ensures ∙ sym (separated_at program again index it same less is)
