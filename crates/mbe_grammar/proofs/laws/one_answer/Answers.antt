use Rattle.mbe_grammar.proofs.FragmentAnswers.{one_answer}
use Rattle.mbe_grammar.proofs.laws.one_answer.Goals as goal

pub returns : goal.returns
returns c = one_answer
