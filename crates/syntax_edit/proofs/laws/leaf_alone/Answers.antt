use Rattle.syntax_edit.proofs.Words.{leaf_alone}
use Rattle.syntax_edit.proofs.laws.leaf_alone.Goals as goal

pub returns : goal.returns
returns c = leaf_alone
