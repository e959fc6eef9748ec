use Rattle.std.proofs.Common.{arith}
use Rattle.tt_tables.specs.ListOf.{list_of}
use Rattle.tt_pack.proofs.MostBytes.{most_headers}
use Rattle.tt_pack.proofs.interned.InternedTablesNumbered.room.Goals as goal

pub returns : goal.returns
returns c = λ small. omega (arith, small, c.saturating_mul.ensures, c.len.ensures, most_headers (list_of c.args.self.now.below))
