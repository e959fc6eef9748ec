use Rattle.syntax_edit.proofs.Tokens.{token_alone}
use Rattle.syntax_edit.proofs.laws.token_alone.Goals as goal

pub returns : goal.returns
returns c = token_alone
