use Rattle.syntax_lex.proofs.GrammarFacts.{string_closed}
use Rattle.syntax_lex.proofs.laws.string_closed.Goals as goal

pub returns : goal.returns
returns c = string_closed
