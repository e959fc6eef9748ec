use Rattle.syntax_edit.proofs.Spliced.{read_spliced}
use Rattle.syntax_edit.proofs.splices.read_spliced.Goals as goal

pub returns : goal.returns
returns c = read_spliced
