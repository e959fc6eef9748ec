use Rattle.syntax_layout.proofs.Returns.{tree_text_spells}
use Rattle.syntax_layout.proofs.laws.tree_text_spells.Goals as goal

pub returns : goal.returns
returns c = tree_text_spells
