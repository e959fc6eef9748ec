use Rattle.syntax_layout.proofs.Documents.{documented_spells}
use Rattle.syntax_layout.proofs.laws.documented_spells.Goals as goal

pub returns : goal.returns
returns c = documented_spells
