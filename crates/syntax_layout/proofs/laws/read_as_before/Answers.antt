use Rattle.syntax_layout.proofs.Returns.{read_as_before}
use Rattle.syntax_layout.proofs.laws.read_as_before.Goals as goal

pub returns : goal.returns
returns c = read_as_before
