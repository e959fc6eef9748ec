use Rattle.syntax_lex.proofs.ReadKeeps.{token_ends}
use Rattle.syntax_lex.proofs.laws.token_ends.Goals as goal

pub returns : goal.returns
returns c = token_ends
