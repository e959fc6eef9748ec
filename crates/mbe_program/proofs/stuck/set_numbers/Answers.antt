use Rattle.std.proofs.Common.{rules, ◌≡◌, ◌<◌, ◌∙◌, ◌++◌, ◌∷◌, ◌+◌, [], true, false, length, drop, get_or, ap, arith}
use Rattle.mbe_matcher.specs.Waiting.{set_from}
use Rattle.mbe_matcher.proofs.Marking.{set_next, set_skipped, set_done}
use Rattle.mbe_program.proofs.stuck.set_numbers.Goals.{then-flag+in_ok-push, else-flag}
use Rattle.mbe_program.proofs.stuck.set_numbers.Goals as goal

pub loop-number-init : goal.loop-number-init
loop-number-init c =
    let none : c.new-numbers.result.items ≡ [] = search rules in
    ap (λ ns. ns ++ set_from 0 (drop 0 c.args.flags.now)) none

pub loop-number-preserved : goal.loop-number-preserved
loop-number-preserved c =
    let flags = c.args.flags.now in
    let i = c.loop-number.number in
    let numbers = c.loop-number.numbers.items in
    let lt : i < length flags = omega arith in
    elim c.if-flag.branch [
      | then-flag+in_ok-push w ↦
          let is : get_or flags i false ≡ true = search rules in
          let more : c.if-flag.numbers.items ≡ numbers ++ i ∷ [] = search rules in
          ap (λ ns. ns ++ set_from (i + 1) (drop (i + 1) flags)) more ∙ set_next flags i lt numbers (set_from 0 flags) is c.loop-number.invariant
      | else-flag w ↦
          let is : get_or flags i false ≡ false = search rules in
          let same : c.if-flag.numbers.items ≡ numbers = search rules in
          ap (λ ns. ns ++ set_from (i + 1) (drop (i + 1) flags)) same ∙ set_skipped flags i lt numbers (set_from 0 flags) is c.loop-number.invariant
    ]

pub returns : goal.returns
returns c = set_done c.args.flags.now c.loop-number.number c.loop-number.numbers.items (set_from 0 c.args.flags.now) (omega arith) c.loop-number.invariant
