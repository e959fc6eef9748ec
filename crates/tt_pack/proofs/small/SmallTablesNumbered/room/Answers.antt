use Rattle.std.proofs.Common.{arith}
use Rattle.tt_pack.specs.SmallTables.{list_within}
use Rattle.tt_pack.proofs.MostBytes.{most_headers}
use Rattle.tt_pack.proofs.small.SmallTablesNumbered.room.Goals as goal

pub returns : goal.returns
returns c = λ small. omega (arith, small, c.saturating_mul.ensures, c.len.ensures, most_headers (list_within c.args.self.now))
