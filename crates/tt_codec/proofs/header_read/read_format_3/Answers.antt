use Rattle.std.proofs.Common.{arith}
use Rattle.std.proofs.lemmas.Grind.{common_steps}
use Rattle.tt_codec.proofs.header_read.read_format_3.Goals as goal

-- explicit: an automatic search for this answer takes long before it fails
pub returns : goal.returns
returns c = grind (arith, common_steps)
