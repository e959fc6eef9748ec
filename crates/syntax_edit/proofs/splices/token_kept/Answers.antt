use Rattle.syntax_edit.proofs.Tokens.{token_kept}
use Rattle.syntax_edit.proofs.splices.token_kept.Goals as goal

pub returns : goal.returns
returns c = token_kept
