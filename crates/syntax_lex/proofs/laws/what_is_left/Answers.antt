use Rattle.syntax_lex.proofs.EndFacts.{reading_end}
use Rattle.syntax_lex.proofs.laws.what_is_left.Goals as goal

pub returns : goal.returns
returns c = reading_end
