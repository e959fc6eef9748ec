use Rattle.syntax_unparse.proofs.Readings.{no_syntax_fault}
use Rattle.syntax_unparse.proofs.laws.no_syntax_fault.Goals as goal

pub returns : goal.returns
returns c = no_syntax_fault
