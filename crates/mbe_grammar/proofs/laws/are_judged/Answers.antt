use Rattle.mbe_grammar.specs.Table.{rust_rules}
use Rattle.mbe_grammar.proofs.FragmentAnswers.{good}
use Rattle.mbe_grammar.proofs.OneDerivation.{judged}
use Rattle.mbe_grammar.proofs.laws.are_judged.Goals as goal

pub returns : goal.returns
returns c = judged rust_rules good
