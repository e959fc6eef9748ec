use Rattle.tt_base.specs.TreeText.{display}
use Rattle.tt_view.proofs.display.TokenTreesViewDisplay.fmt.Goals as goal

pub returns-clause-writes : goal.returns-clause-writes
unfolding display
returns-clause-writes g c = rw c.iter.ensures at c.write_siblings.ensures
