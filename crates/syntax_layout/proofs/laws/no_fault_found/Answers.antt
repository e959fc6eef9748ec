use Rattle.syntax_layout.proofs.Returns.{no_fault_found}
use Rattle.syntax_layout.proofs.laws.no_fault_found.Goals as goal

pub returns : goal.returns
returns c = no_fault_found
