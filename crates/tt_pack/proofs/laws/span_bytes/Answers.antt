use Rattle.std.proofs.Common.{rules}
use Rattle.tt_pack.proofs.laws.span_bytes.Goals as goal

-- explicit: an automatic search for this answer takes long before it fails
pub returns-clause-ok : goal.returns-clause-ok
returns-clause-ok c = search rules
