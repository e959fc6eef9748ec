use Rattle.std.proofs.Common.{drop, sym, ap, ◌∙◌}
use Rattle.std.specs.Str.{chars}
use Rattle.syntax_lex.specs.Front.{behind}
use Rattle.syntax_lex.specs.Stop.{goes_on}
use Rattle.syntax_lex.proofs.StopFacts.{until_found, until_none}
use Rattle.syntax_lex.proofs.runs.past_until.Goals as goal

pub returns-in-Some-clause-rest : goal.returns-in-Some-clause-rest
returns-in-Some-clause-rest c =
    ap chars c.range_from.ensures.value
    ∙ ap (λ bs. chars (drop c.in-Some.at bs)) (sym c.as_bytes.ensures.value)
    ∙ until_found c.args.stop c.as_bytes.result.now c.as_bytes.ensures.utf8 c.in-Some.at c.in-Some.ensures.0.high c.in-Some.ensures.0.before c.in-Some.ensures.1
    ∙ ap (λ bs. behind (goes_on c.args.stop) (chars bs)) c.as_bytes.ensures.value

pub returns-in-None-clause-rest : goal.returns-in-None-clause-rest
returns-in-None-clause-rest c =
    until_none c.args.stop c.as_bytes.result.now c.as_bytes.ensures.utf8 c.in-None.ensures
    ∙ ap (λ bs. behind (goes_on c.args.stop) (chars bs)) c.as_bytes.ensures.value
