use Rattle.syntax_lex.proofs.TokenFacts.{one_list}
use Rattle.syntax_lex.proofs.laws.one_list.Goals as goal

pub returns : goal.returns
returns c = one_list
