use Rattle.syntax_unparse.proofs.Back.{reads_back}
use Rattle.syntax_unparse.proofs.laws.reads_back.Goals as goal

pub returns : goal.returns
returns c = reads_back
