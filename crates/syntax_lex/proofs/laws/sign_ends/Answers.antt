use Rattle.syntax_lex.proofs.SignFacts.{sign_read}
use Rattle.syntax_lex.proofs.laws.sign_ends.Goals as goal

pub returns : goal.returns
returns c = sign_read
