use Rattle.syntax_layout.proofs.Returns.{laid_out_spells}
use Rattle.syntax_layout.proofs.laws.laid_out_spells.Goals as goal

pub returns : goal.returns
returns c = laid_out_spells
