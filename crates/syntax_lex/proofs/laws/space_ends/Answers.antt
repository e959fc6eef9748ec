use Rattle.syntax_lex.proofs.SignFacts.{space_read}
use Rattle.syntax_lex.proofs.laws.space_ends.Goals as goal

pub returns : goal.returns
returns c = space_read
