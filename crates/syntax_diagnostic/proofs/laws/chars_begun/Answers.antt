use Rattle.syntax_diagnostic.proofs.CharFacts.{chars_begun}
use Rattle.syntax_diagnostic.proofs.laws.chars_begun.Goals as goal

pub returns : goal.returns
returns c = chars_begun
