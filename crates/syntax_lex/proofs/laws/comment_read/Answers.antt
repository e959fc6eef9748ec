use Rattle.syntax_lex.proofs.CommentFacts.{comment_read}
use Rattle.syntax_lex.proofs.laws.comment_read.Goals as goal

pub returns : goal.returns
returns c = comment_read
