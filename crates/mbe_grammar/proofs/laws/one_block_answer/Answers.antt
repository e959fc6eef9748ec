use Rattle.mbe_grammar.proofs.FragmentAnswers.{has_block_answer, one_block_answer}
use Rattle.mbe_grammar.proofs.laws.one_block_answer.Goals as goal

pub returns-clause-has : goal.returns-clause-has
returns-clause-has c = has_block_answer

pub returns-clause-one : goal.returns-clause-one
returns-clause-one c = one_block_answer
