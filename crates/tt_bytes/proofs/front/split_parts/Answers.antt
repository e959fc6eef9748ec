use Rattle.std.proofs.Common.{rules, ◌≡◌, ◌++◌, ◌∷◌, [], inr, ◌+◌, ◌-◌, Some, None, sym, ◌∙◌, arith}
use Rattle.tt_bytes.specs.Front.{part_at}
use Rattle.tt_bytes.proofs.Reading.{part_taken, part_missing}
use Rattle.tt_bytes.proofs.front.split_parts.Goals as goal

pub returns-in_default-clause-value : goal.returns-in_default-clause-value
returns-in_default-clause-value c =
    let none : part_at c.loop.rest.now ≡ None = search rules in
    inr (sym c.loop.invariant.read ∙ part_missing c.args.all (c.args.count - (c.loop.counter + 1)) (c.args.count - c.loop.counter) c.loop.parts.items c.loop.rest.now (omega (arith, c.loop-test.true)) none)

pub loop-preserved : goal.loop-preserved
loop-preserved c =
    let read : part_at c.loop.rest.now ≡ Some (c.in-Some.part, c.in-Some.behind.now) = search rules in
    let pushed : c.push.new.self.items ≡ c.loop.parts.items ++ c.in-Some.part ∷ [] = search rules in
    record {
      read = sym (part_taken c.args.all (c.args.count - (c.loop.counter + 1)) (c.args.count - c.loop.counter) c.loop.parts.items c.push.new.self.items c.in-Some.part c.loop.rest.now c.in-Some.behind.now (omega (arith, c.loop-test.true)) read pushed) ∙ c.loop.invariant.read;
      len = omega (arith, c.in-Some.ensures.len, c.loop.invariant.len);
    }
