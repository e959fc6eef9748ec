use Rattle.std.proofs.Common.{rules, ◌≡◌, ◌-◌, ◌<◌, ◌≤◌, suc, length, subst, sym, arith}
use Rattle.mbe_program.specs.Counting.{Count, count_of, counted, counted_on, nothing_counted}
use Rattle.mbe_program.specs.Moving.{instruction_of, instructions_of}
use Rattle.mbe_program.proofs.CountSteps.{counted_next, few_counted}
use Rattle.mbe_program.proofs.counting.part_numbers.Goals as goal

pub loop-instruction-preserved : goal.loop-instruction-preserved
loop-instruction-preserved c =
    let program = c.args.program.now in
    let own = instructions_of program in
    let k = c.loop-instruction.instruction-index in
    let behind = c.saturating_sub-behind.result in
    let it = c.instruction-item.result in
    let its = count_of c.loop-instruction.counting in
    let new = count_of c.add.new.self in
    let less : k < length program = omega arith in
    let left = c.loop-instruction.invariant.left in
    let count : behind ≡ length program - suc k = omega (arith, left, c.saturating_sub-behind.ensures) in
    let on : new ≡ counted_on own (instruction_of it) behind its = search rules in
    record {
      all = counted_next program k behind it its new (counted own own nothing_counted) less c.instruction-item.is count on c.loop-instruction.invariant.all;
      few = subst (λ (it : Count). it.next ≤ length it.numbers) (sym on) (few_counted own (instruction_of it) behind its c.loop-instruction.invariant.few);
      left = omega (arith, count);
    }
