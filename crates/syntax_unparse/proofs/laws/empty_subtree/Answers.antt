use Rattle.syntax_unparse.proofs.DisplayFacts.{empty_subtree}
use Rattle.syntax_unparse.proofs.laws.empty_subtree.Goals as goal

pub returns : goal.returns
returns c = empty_subtree
