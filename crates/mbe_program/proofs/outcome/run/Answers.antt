use Rattle.std.proofs.Common.{◌≡◌, ap, sym, ◌∙◌}
use Rattle.std.proofs.lemmas.Result.{err_from_is_err_and}
use Rattle.tt.specs.Forest.{size}
use Rattle.tt.specs.Iters.{rest_of}
use Rattle.mbe_program.specs.Moving.{instructions_of}
use Rattle.mbe_program.proofs.Results.{if_ok, if_err}
use Rattle.mbe_program.proofs.outcome.run.Goals as goal

pub returns-in_err-positions : goal.returns-in_err-positions
returns-in_err-positions c = let fault = err_from_is_err_and c.from_residual.result c.from_residual.ensures.1 in if_err _ c.from_residual.result fault.0 fault.1

pub search_all-requires : goal.search_all-requires
search_all-requires c = (rest_of c.args.input, c.in_ok-positions.ensures.table)

pub returns-in_err-search : goal.returns-in_err-search
returns-in_err-search c = let fault = err_from_is_err_and c.from_residual-in_err-search.result c.from_residual-in_err-search.ensures.1 in if_err _ c.from_residual-in_err-search.result fault.0 fault.1

pub answer_of-requires-clause-in_order : goal.answer_of-requires-clause-in_order
answer_of-requires-clause-in_order c = λ k it there. (c.in_ok-search.ensures.all.kept.source k it there).3

pub returns : goal.returns
returns c =
    let whole : size (rest_of c.args.input) ≡ c.len-count.result = sym (c.len-count.ensures ∙ ap size c.remaining.ensures) in
    if_ok c.answer_of.result
    (λ answer h. h (instructions_of c.args.program.now) (rest_of c.args.input) c.in_ok-positions.ensures.table c.in_ok-search.ensures.all whole)
    c.answer_of.ensures
