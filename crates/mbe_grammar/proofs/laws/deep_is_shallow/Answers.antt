use Rattle.mbe_grammar.proofs.FragmentAnswers.{deep_is_shallow}
use Rattle.mbe_grammar.proofs.laws.deep_is_shallow.Goals as goal

pub returns : goal.returns
returns c = deep_is_shallow
