use Rattle.std.proofs.Common.{rules}
use Rattle.tt_pack.proofs.token_reader.TokenReaderVisitor.visit_header.Goals as goal

-- explicit: an automatic search for this answer takes long before it fails
pub returns-in-Some : goal.returns-in-Some
returns-in-Some c = search rules

pub returns-in_default : goal.returns-in_default
returns-in_default c = search rules
