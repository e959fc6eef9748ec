use Rattle.std.proofs.Common.{ap, arith, length, rules}
use Rattle.tt_tables.specs.Stored.{bytes}
use Rattle.tt_pack.proofs.writer.Writer.new.Goals as goal

pub returns-clause-ok : goal.returns-clause-ok
unfolding bytes
returns-clause-ok c tables = record {
  bytes = c.in_ok-bytes.ensures.bytes;
  sums = search rules;
  range = tt;
  few = omega (arith, ap length c.in_ok-bytes.ensures.bytes);
}
