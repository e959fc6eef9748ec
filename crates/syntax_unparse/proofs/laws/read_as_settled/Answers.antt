use Rattle.syntax_unparse.proofs.Readings.{read_as_settled}
use Rattle.syntax_unparse.proofs.laws.read_as_settled.Goals as goal

pub returns : goal.returns
returns c = read_as_settled
