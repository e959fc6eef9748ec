use Rattle.syntax_edit.proofs.Spliced.{read_joined}
use Rattle.syntax_edit.proofs.splices.read_joined.Goals as goal

pub returns : goal.returns
returns c = read_joined
