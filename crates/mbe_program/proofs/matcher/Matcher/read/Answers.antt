use Rattle.std.proofs.Common.{rules, ◌≡◌, ap, subst, ◌∙◌}
use Rattle.tt.specs.Iters.{rest_of}
use Rattle.mbe_program.specs.Answers.{IsAnswer}
use Rattle.mbe_program.specs.Moving.{instructions_of}
use Rattle.mbe_program.proofs.matcher.Matcher.read.Goals as goal

pub returns : goal.returns
returns c = λ pattern of.
    let input = rest_of c.args.input in
    let items : c.deref.result.now ≡ c.args.self.now.instructions.items = search rules in
    c.found_of.ensures pattern input (subst (λ its. IsAnswer its input c.in_ok-answer.answer) (ap instructions_of items ∙ of.instructions) c.in_ok-answer.ensures)
