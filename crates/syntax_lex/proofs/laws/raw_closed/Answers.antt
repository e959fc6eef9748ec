use Rattle.syntax_lex.proofs.GrammarFacts.{raw_closed}
use Rattle.syntax_lex.proofs.laws.raw_closed.Goals as goal

pub returns : goal.returns
returns c = raw_closed
