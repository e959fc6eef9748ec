use Rattle.syntax_edit.proofs.CallWeaves.{read_woven}
use Rattle.syntax_edit.proofs.splices.read_woven.Goals as goal

pub returns : goal.returns
returns c = read_woven
