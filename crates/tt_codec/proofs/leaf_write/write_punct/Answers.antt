use Rattle.std.proofs.Common.{arith}
use Rattle.std.proofs.lemmas.Grind.{common_steps}
use Rattle.tt_codec.proofs.leaf_write.write_punct.Goals as goal

-- explicit: an automatic search for this answer takes long before it fails
pub returns-clause-bytes : goal.returns-clause-bytes
returns-clause-bytes c = grind (arith, common_steps)
