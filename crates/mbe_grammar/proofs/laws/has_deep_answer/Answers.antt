use Rattle.mbe_grammar.proofs.FragmentAnswers.{has_deep_answer}
use Rattle.mbe_grammar.proofs.laws.has_deep_answer.Goals as goal

pub returns : goal.returns
returns c = has_deep_answer
