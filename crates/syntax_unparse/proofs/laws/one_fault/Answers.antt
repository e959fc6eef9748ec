use Rattle.syntax_unparse.proofs.OneFault.{one_fault}
use Rattle.syntax_unparse.proofs.laws.one_fault.Goals as goal

pub returns : goal.returns
returns c = one_fault
