use Rattle.tt_base.proofs.LeafTexts.{header_told}
use Rattle.tt_base.proofs.debug_line.HeaderLineDisplay.fmt.Goals as goal

-- explicit: an automatic search for this answer takes long before it fails
pub returns-clause-writes : goal.returns-clause-writes
returns-clause-writes g c = rw (header_told c.args.self.now.0 _ c.both_ends.ensures) at c.write.ensures.writes
