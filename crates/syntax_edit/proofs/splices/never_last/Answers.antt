use Rattle.syntax_edit.proofs.Tokens.{never_last}
use Rattle.syntax_edit.proofs.splices.never_last.Goals as goal

pub returns : goal.returns
returns c = never_last
