use Rattle.syntax_lex.proofs.Clears.{token_clear}
use Rattle.syntax_lex.proofs.laws.token_clear.Goals as goal

pub returns : goal.returns
returns c = token_clear
