use Rattle.syntax_lex.proofs.GrammarFacts.{string_read}
use Rattle.syntax_lex.proofs.laws.string_read.Goals as goal

pub returns : goal.returns
returns c = string_read
