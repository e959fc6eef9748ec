use Rattle.syntax_edit.proofs.CallWeaves.{no_fault_woven}
use Rattle.syntax_edit.proofs.splices.no_fault_woven.Goals as goal

pub returns : goal.returns
returns c = no_fault_woven
