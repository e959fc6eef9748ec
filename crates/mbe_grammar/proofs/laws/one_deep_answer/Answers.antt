use Rattle.mbe_grammar.proofs.FragmentAnswers.{one_deep_answer}
use Rattle.mbe_grammar.proofs.laws.one_deep_answer.Goals as goal

pub returns : goal.returns
returns c = one_deep_answer
