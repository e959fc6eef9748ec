use Rattle.std.proofs.Common.{rules}
use Rattle.tt_pack.proofs.tables.ListTables.header_entry.Goals as goal

-- explicit: an automatic search for this answer takes long before it fails
pub returns : goal.returns
returns c = search rules
