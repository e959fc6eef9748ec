use Rattle.std.proofs.Common.{arith}
use Rattle.std.proofs.lemmas.Grind.{common_steps}
use Rattle.tt_codec.proofs.entry_read.visit_plain.Goals as goal

-- explicit: an automatic search for this answer takes long before it fails
pub returns-in-0 : goal.returns-in-0
returns-in-0 g c = grind (arith, common_steps)
