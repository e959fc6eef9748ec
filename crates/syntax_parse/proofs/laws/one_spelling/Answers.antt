use Rattle.syntax_parse.proofs.OneSpelling.{one_spelling}
use Rattle.syntax_parse.proofs.laws.one_spelling.Goals as goal

pub returns : goal.returns
returns c = one_spelling
