use Rattle.mbe_grammar.proofs.FragmentAnswers.{has_answer}
use Rattle.mbe_grammar.proofs.laws.has_answer.Goals as goal

pub returns : goal.returns
returns c = has_answer
