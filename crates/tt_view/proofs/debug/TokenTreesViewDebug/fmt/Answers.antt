use Rattle.tt_base.specs.DebugText.{debug}
use Rattle.tt_view.proofs.debug.TokenTreesViewDebug.fmt.Goals as goal

pub returns : goal.returns
unfolding debug
returns g c = record { writes = rw c.iter.ensures at c.write_lines.ensures }
