use Rattle.std.proofs.Common.{◌≡◌, ap, ◌∙◌}
use Rattle.mbe_program.specs.Counting.{counted, nothing_counted}
use Rattle.mbe_program.specs.Moving.{instructions_of}
use Rattle.mbe_program.proofs.Counted.{counted_parts}
use Rattle.mbe_program.proofs.Results.{if_ok}
use Rattle.mbe_program.proofs.stuck.waiting.Goals as goal

pub returns : goal.returns
returns c =
    let program = instructions_of c.args.program.now in
    let counts : c.deref.result.now ≡ (counted program program nothing_counted).numbers = c.deref.ensures.value ∙ c.in_ok-numbers.ensures in
    if_ok c.waiting_in.result
    (λ found waits pattern program_is.
    waits pattern program_is (counts ∙ ap (λ program. (counted program program nothing_counted).numbers) program_is ∙ counted_parts pattern))
    c.waiting_in.ensures
