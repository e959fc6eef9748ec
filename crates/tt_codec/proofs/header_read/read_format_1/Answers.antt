use Rattle.std.proofs.Common.{arith, rules}
use Rattle.std.proofs.lemmas.Grind.{common_steps}
use Rattle.tt_codec.proofs.header_read.read_format_1.Goals as goal

-- explicit: an automatic search for this answer takes long before it fails
pub returns-in_err-start : goal.returns-in_err-start
returns-in_err-start c = search rules

pub returns : goal.returns
returns c = grind (arith, common_steps)
