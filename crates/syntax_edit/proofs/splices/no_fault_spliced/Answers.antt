use Rattle.syntax_edit.proofs.Spliced.{no_fault_spliced}
use Rattle.syntax_edit.proofs.splices.no_fault_spliced.Goals as goal

pub returns : goal.returns
returns c = no_fault_spliced
