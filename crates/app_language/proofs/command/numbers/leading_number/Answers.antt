use Rattle.std.proofs.Common.{◌≡◌, ◌<◌, take, length, subst, arith}
use Rattle.std.specs.Str.Parse.{AllDigits}
use Rattle.std.proofs.lemmas.Str.{digit_value_digit}
use Rattle.std.proofs.lemmas.Int.Digits.{digits_more, digits_value_more}
use Rattle.app_language.proofs.Fronts.{no_long_front, value_fits}
use Rattle.app_language.proofs.command.numbers.leading_number.Goals as goal

pub overflow_mul-value : goal.overflow_mul-value
overflow_mul-value c =
    let small = value_fits _ _ _ c.loop-i.invariant.digits c.loop-i.invariant.value (omega (arith, c.min-end.ensures, c.loop-i-test.true)) in
    omega arith

pub overflow_add-value : goal.overflow_add-value
overflow_add-value c =
    let small = value_fits _ _ _ c.loop-i.invariant.digits c.loop-i.invariant.value (omega (arith, c.min-end.ensures, c.loop-i-test.true)) in
    omega (arith, c.from.ensures, c.type_inv.text c.loop-i.i)

pub loop-i-preserved : goal.loop-i-preserved
loop-i-preserved c =
    let here : c.loop-i.i < length c.args.text.now = omega (arith, c.min-end.ensures, c.loop-i-test.true) in
    record {
      digits = digits_more 10 _ _ here c.loop-i.invariant.digits c.if-not-is_ascii_digit.ensures.bound;
      value =
          let next = digits_value_more 10 c.args.text.now c.loop-i.i here in
          let digit = digit_value_digit _ c.if-not-is_ascii_digit.ensures.cases in
          omega (arith, c.loop-i.invariant.value, c.from.ensures);
    }

pub returns-then-end-eq-TOO_MANY_DIGITS : goal.returns-then-end-eq-TOO_MANY_DIGITS
returns-then-end-eq-TOO_MANY_DIGITS c =
    let many : c.loop-i.i ≡ 19 = omega (arith, c.loop-i-test.false, c.loop-i.auto.i-end, c.if-end-eq-TOO_MANY_DIGITS.true) in
    let digits : AllDigits 10 (take 19 c.args.text.now) = subst (λ n. AllDigits 10 (take n c.args.text.now)) many c.loop-i.invariant.digits in
    λ n rest small others e. no_long_front c.args.text.now (omega (arith, c.min-end.ensures, c.if-end-eq-TOO_MANY_DIGITS.true)) digits n rest (small, others, e)
