use Rattle.syntax_unparse.proofs.DisplayFacts.{as_displayed}
use Rattle.syntax_unparse.proofs.laws.as_displayed.Goals as goal

pub returns : goal.returns
returns c = as_displayed
