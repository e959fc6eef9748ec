use Rattle.std.proofs.Common.{arith}
use Rattle.mbe_grammar.proofs.FragmentAnswers.{takes_a_tree}
use Rattle.mbe_grammar.proofs.laws.takes_a_tree.Goals as goal

pub returns : goal.returns
returns c = λ fragment trees count reaches. omega (arith, (takes_a_tree fragment trees count reaches).1)
