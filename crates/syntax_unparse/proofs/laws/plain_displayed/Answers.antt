use Rattle.syntax_unparse.proofs.DisplayFacts.{plain_displayed}
use Rattle.syntax_unparse.proofs.laws.plain_displayed.Goals as goal

pub returns : goal.returns
returns c = plain_displayed
