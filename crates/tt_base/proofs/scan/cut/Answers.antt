use Rattle.std.proofs.Common.{rules}
use Rattle.tt_base.proofs.scan.cut.Goals as goal

-- explicit: an automatic search for this answer takes long before it fails
pub returns-then-end-start : goal.returns-then-end-start
returns-then-end-start c = search rules
