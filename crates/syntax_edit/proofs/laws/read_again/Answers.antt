use Rattle.syntax_edit.proofs.Writings.{read_again}
use Rattle.syntax_edit.proofs.laws.read_again.Goals as goal

pub returns : goal.returns
returns c = read_again
