use Rattle.syntax_edit.proofs.Tokens.{token_parted}
use Rattle.syntax_edit.proofs.splices.token_parted.Goals as goal

pub returns : goal.returns
returns c = token_parted
