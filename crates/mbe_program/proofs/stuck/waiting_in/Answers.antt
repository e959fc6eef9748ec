use Rattle.std.proofs.Common.{rules, ◌≡◌, ◌-◌, ◌≤◌, map, ap, sym, subst, ◌∙◌, arith}
use Rattle.tt.specs.Forest.{size}
use Rattle.tt.specs.Iters.{rest_of}
use Rattle.mbe_matcher.specs.Waiting.{AreWaiting, set_from}
use Rattle.mbe_program.specs.Moving.{instructions_of}
use Rattle.mbe_program.specs.Positions.{table_of}
use Rattle.mbe_program.specs.Searching.{coming_of, log_of}
use Rattle.mbe_program.specs.Stuck.{AreStuck}
use Rattle.mbe_program.proofs.Results.{if_ok}
use Rattle.mbe_program.proofs.Waits.{are_waiting}
use Rattle.mbe_program.proofs.stuck.waiting_in.Goals as goal

pub returns : goal.returns
returns c =
    let program = instructions_of c.args.program.now in
    let input = rest_of c.args.input in
    let table = table_of c.in_ok-positions.positions in
    let parts = c.args.numbers.now in
    let found = c.in_ok-search.search in
    let at = c.args.at in
    let count = c.len-count.result in
    let flags = c.in_ok-flags.flags.items in
    let whole : size input ≡ count = sym (c.len-count.ensures ∙ ap size c.remaining.ensures) in
    let within : at ≤ count = search rules in
    let log : map coming_of c.deref.result.now ≡ log_of found = ap (map coming_of) c.deref.ensures.value in
    let are : AreStuck program table (count - at) parts (log_of found) flags = subst (λ log. AreStuck program table (count - at) parts log flags) log c.in_ok-flags.ensures in
    if_ok c.set_numbers.result
    (λ found_numbers same pattern program_is numbers_are.
    subst (AreWaiting pattern input at) (sym (same ∙ ap (set_from 0) c.deref-2.ensures.value))
    (are_waiting program input table c.in_ok-positions.ensures.table parts found c.in_ok-search.ensures.all (count - at) flags are pattern program_is numbers_are
    at (omega (arith, whole, within))))
    c.set_numbers.ensures
