use Rattle.syntax_parse.proofs.InsideText.{literal_text}
use Rattle.syntax_parse.proofs.laws.literal_text.Goals as goal

pub returns : goal.returns
returns c = literal_text
