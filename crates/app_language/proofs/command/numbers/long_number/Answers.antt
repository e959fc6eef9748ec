use Rattle.std.proofs.Common.{rules, arith}
use Rattle.std.proofs.lemmas.List.{take_all}
use Rattle.std.proofs.lemmas.Str.{digit_value_digit}
use Rattle.std.proofs.lemmas.Int.Digits.{digits_more, digits_value_more}
use Rattle.app_language.proofs.Numbers.{no_empty, no_longer, no_zero, no_other, number_read, value_small}
use Rattle.app_language.proofs.command.numbers.long_number.Goals as goal
use Rattle.app_language.proofs.command.numbers.long_number.Goals.{then-is_empty-via-then-is_empty, then-is_empty-via-else-is_empty+then-word-gt20, else-word-eq48-via-then-word-eq48+else-word-gt1, else-word-eq48-via-else-word-eq48}

pub returns-then-is_empty : goal.returns-then-is_empty
returns-then-is_empty c =
    elim c.then-is_empty.branch [
      | then-is_empty-via-then-is_empty w ↦ no_empty _ (search rules)
      | then-is_empty-via-else-is_empty+then-word-gt20 w ↦ no_longer _ w.if-word-gt20.true
    ]

pub returns-then-word-gt1 : goal.returns-then-word-gt1
returns-then-word-gt1 c = no_zero _ c.if-word-gt1.true (search rules)

pub returns-then-not-is_ascii_digit : goal.returns-then-not-is_ascii_digit
returns-then-not-is_ascii_digit c = no_other _ _ c.loop-digit-test.true c.if-not-is_ascii_digit.ensures.cases

pub overflow_mul-value : goal.overflow_mul-value
overflow_mul-value c = let small = value_small _ _ _ c.loop-digit.invariant.digits c.loop-digit.invariant.value (omega arith) in omega arith

pub overflow_add-value : goal.overflow_add-value
overflow_add-value c = let small = value_small _ _ _ c.loop-digit.invariant.digits c.loop-digit.invariant.value (omega arith) in omega (arith, c.type_inv.word c.loop-digit.digit-index)

pub loop-digit-preserved : goal.loop-digit-preserved
loop-digit-preserved c = record {
  digits = digits_more 10 _ _ c.loop-digit-test.true c.loop-digit.invariant.digits c.if-not-is_ascii_digit.ensures.bound;
  value =
      let next = digits_value_more 10 _ _ c.loop-digit-test.true in
      let digit = digit_value_digit _ c.if-not-is_ascii_digit.ensures.cases in
      omega (arith, c.loop-digit.invariant.value);
}

pub returns : goal.returns
returns c =
    let all = take_all c.loop-digit.digit-index c.args.word.now c.loop-digit-test.false in
    let digits = rw all at c.loop-digit.invariant.digits in
    let value = rw all at c.loop-digit.invariant.value in
    rw c.ok.ensures.value (number_read _ _ _ digits value (search rules) c.else-word-eq48.either c.try_from.ensures)
