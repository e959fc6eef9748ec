use Rattle.syntax_lex.proofs.TokenFacts.{in_order}
use Rattle.syntax_lex.proofs.laws.in_order.Goals as goal

pub returns : goal.returns
returns c = in_order
