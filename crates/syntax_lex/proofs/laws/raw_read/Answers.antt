use Rattle.syntax_lex.proofs.GrammarFacts.{raw_read}
use Rattle.syntax_lex.proofs.laws.raw_read.Goals as goal

pub returns : goal.returns
returns c = raw_read
