use Rattle.std.proofs.Common.{rules}
use Rattle.app_console.proofs.Answering.{Answered-one}
use Rattle.app_console.proofs.session.Session.answer.Goals as goal

pub returns-clause-answers : goal.returns-clause-answers
returns-clause-answers g c =
    ((c.step-answer.result, search rules, Answered-one _ _ _ c.in-Some.command _ (search rules) (search rules)), search rules, search rules)
