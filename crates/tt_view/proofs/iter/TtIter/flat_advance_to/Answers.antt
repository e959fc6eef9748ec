use Rattle.tt_base.proofs.Walks.{flat_left_whole}
use Rattle.tt_view.proofs.iter.TtIter.flat_advance_to.Goals as goal

-- explicit: the last n tokens of a whole list are whole, for each n
pub returns-clause-whole : goal.returns-clause-whole
returns-clause-whole c = flat_left_whole c.args.cursor.now
