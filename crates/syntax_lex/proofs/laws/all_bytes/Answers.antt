use Rattle.syntax_lex.proofs.TokenFacts.{all_bytes}
use Rattle.syntax_lex.proofs.laws.all_bytes.Goals as goal

pub returns : goal.returns
returns c = all_bytes
