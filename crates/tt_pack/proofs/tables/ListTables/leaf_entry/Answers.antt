use Rattle.std.proofs.Common.{rules}
use Rattle.tt_pack.proofs.tables.ListTables.leaf_entry.Goals as goal

-- explicit: an automatic search for this answer takes long before it fails
pub returns-in-Ident : goal.returns-in-Ident
returns-in-Ident c = search rules
