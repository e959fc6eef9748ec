use Rattle.syntax_lex.proofs.CommentFacts.{comment_closed}
use Rattle.syntax_lex.proofs.laws.comment_closed.Goals as goal

pub returns : goal.returns
returns c = comment_closed
