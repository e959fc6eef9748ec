use Rattle.std.proofs.Common.{◌≡◌, ◌-◌, ap, sym, ◌∙◌, slice_get, length, arith}
use Rattle.std.proofs.lemmas.Option.{slice_get-get_or}
use Rattle.tt_tables.proofs.interner.len_to_last_used.Goals as goal

pub returns-then-numbers-len-ne0-clause-ends_used : goal.returns-then-numbers-len-ne0-clause-ends_used
returns-then-numbers-len-ne0-clause-ends_used c = λ k len.
    let numbers = c.args.numbers.now in
    let place : length numbers - c.loop-unused.unused - 1 ≡ k = omega (arith, len) in
    (_, ap (slice_get numbers) (sym place) ∙ slice_get-get_or numbers (length numbers - c.loop-unused.unused - 1) 0 (omega (arith, c.loop-unused-test.true)), omega (arith, c.if-numbers-len-ne0.true))
