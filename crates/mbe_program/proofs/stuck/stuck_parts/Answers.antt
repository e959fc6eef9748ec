use Rattle.std.proofs.Common.{rules, ◌≡◌, ◌<◌, ◌∷◌, ◌++◌, [], true, false, map, set, take, length, ap, sym, subst, ◌∙◌, arith}
use Rattle.std.proofs.lemmas.List.{length-map, map_more}
use Rattle.std.specs.Prelude.{◌↔◌, IsTrue}
use Rattle.mbe_program.specs.Moving.{instruction_of, instructions_of}
use Rattle.mbe_program.specs.Numbering.{part_at}
use Rattle.mbe_program.specs.Positions.{table_of}
use Rattle.mbe_program.specs.Searching.{coming_of}
use Rattle.mbe_program.specs.Stuck.{AreStuck, IsStuckCell}
use Rattle.mbe_program.proofs.Fewest.{logged_at}
use Rattle.mbe_program.proofs.StuckFlags.{stuck_as_before, stuck_too}
use Rattle.mbe_program.proofs.stuck.stuck_parts.Goals.{then-branch, else-branch}
use Rattle.mbe_program.proofs.stuck.stuck_parts.Goals as goal

pub is_stuck-requires : goal.is_stuck-requires
is_stuck-requires c =
    let log = c.args.log.now in
    let index = c.loop-arrival.arrival-index in
    let arrival = c.arrival-item.result in
    let less : index < length log = omega arith in
    let within = c.requires index (coming_of arrival) (logged_at log index arrival less c.arrival-item.is) in
    omega (arith, within, length-map c.args.program.now instruction_of)

pub loop-arrival-preserved : goal.loop-arrival-preserved
loop-arrival-preserved c =
    let program = instructions_of c.args.program.now in
    let table = table_of c.args.positions.now in
    let left = c.args.left in
    let parts = c.args.parts.now in
    let log = c.args.log.now in
    let index = c.loop-arrival.arrival-index in
    let arrival = c.arrival-item.result in
    let flags = c.loop-arrival.flags.items in
    let next = c.if-branch.flags.items in
    let less : index < length log = omega arith in
    let more = map_more coming_of log index arrival less ∙ ap (λ it. map coming_of (take index log) ++ coming_of it ∷ []) (sym c.arrival-item.is) in
    let tells : IsTrue c.in_ok-is_stuck.field-0 ↔ IsStuckCell program table left arrival.cell = search rules in
    subst (λ its. AreStuck program table left parts its next) (sym more)
    (elim c.if-branch.branch [
      | then-branch w ↦
          let is : c.in_ok-is_stuck.field-0 ≡ true = search rules in
          let stuck : next ≡ set flags (part_at parts arrival.cell.left) true = search rules in
          subst (AreStuck program table left parts (map coming_of (take index log) ++ coming_of arrival ∷ [])) (sym stuck)
          (stuck_too program table left parts (map coming_of (take index log)) (coming_of arrival) flags c.loop-arrival.invariant (tells.0 is))
      | else-branch w ↦
          let is : c.in_ok-is_stuck.field-0 ≡ false = search rules in
          let kept : next ≡ flags = search rules in
          subst (AreStuck program table left parts (map coming_of (take index log) ++ coming_of arrival ∷ [])) (sym kept)
          (stuck_as_before program table left parts (map coming_of (take index log)) (coming_of arrival) flags c.loop-arrival.invariant (λ stuck. cc (sym is, tells.1 stuck)))
    ])
