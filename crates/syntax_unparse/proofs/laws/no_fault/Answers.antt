use Rattle.syntax_unparse.proofs.OneFault.{no_fault}
use Rattle.syntax_unparse.proofs.laws.no_fault.Goals as goal

pub returns : goal.returns
returns c = no_fault
