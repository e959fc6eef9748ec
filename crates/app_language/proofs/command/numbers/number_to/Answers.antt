use Rattle.std.proofs.Common.{◌≡◌, ◌<◌, ◌≤◌, ◌^◌, ◌-◌, ◌∙◌, sym, take, drop, length, get_or, arith}
use Rattle.std.proofs.lemmas.List.{get_or-take, length-drop, take_all}
use Rattle.app_language.proofs.Fronts.{IsFront, no_empty_front, no_great_front, no_zero_front, front_read}
use Rattle.app_language.proofs.command.numbers.number_to.Goals as goal
use Rattle.app_language.proofs.command.numbers.number_to.Goals.{else-end-gt1-via-then-end-gt1+else-text-eq48, else-end-gt1-via-else-end-gt1}

pub returns-then-end-eq0 : goal.returns-then-end-eq0
returns-then-end-eq0 c = λ n rest small others e.
    no_empty_front c.args.text.now c.args.end (c.requires.digits.1, c.requires.others) c.if-end-eq0.true n rest (small, others, e)

pub returns-then-value-from : goal.returns-then-value-from
returns-then-value-from c = λ n rest small others e.
    no_great_front c.args.text.now c.args.end (c.requires.digits.1, c.requires.others) (omega (arith, c.requires.value, c.if-value-from.true, c.from.ensures)) n rest (small, others, e)

pub returns-then-text-eq48 : goal.returns-then-text-eq48
returns-then-text-eq48 c = λ n rest small others e.
    no_zero_front c.args.text.now c.args.end (c.requires.digits.1, c.requires.others) c.requires.digits.0 c.if-end-gt1.true (get_or-take c.args.end c.args.text.now 0 0 (omega arith) ∙ c.if-text-eq48.true) n rest (small, others, e)

pub returns : goal.returns
returns c =
    let text = c.args.text.now in
    let whole : take (length text - c.args.end) (drop c.args.end text) ≡ drop c.args.end text = take_all (length text - c.args.end) (drop c.args.end text) (omega (arith, length-drop c.args.end text)) in
    let front : IsFront text c.args.end = (c.requires.digits.1, c.requires.others) in
    let single : get_or (take c.args.end text) 0 0 ≡ 48 → c.args.end ≤ 1 = λ zero.
    elim c.else-end-gt1.branch [
      | else-end-gt1-via-then-end-gt1+else-text-eq48 w ↦ absurd (w.if-text-eq48.false (sym (get_or-take c.args.end text 0 0 (omega (arith, w.if-end-gt1.true))) ∙ zero))
      | else-end-gt1-via-else-end-gt1 w ↦ omega (arith, w.if-end-gt1.false)
    ] in
    let small : c.args.value < 2 ^ 32 = omega (arith, c.if-value-from.false, c.from.ensures) in
    let read = front_read text c.args.end front c.requires.digits.0 (omega (arith, c.if-end-eq0.false)) single (omega (arith, c.requires.value)) in
    rw (whole, c.requires.value) (read, omega (arith, c.requires.value), c.requires.others)
