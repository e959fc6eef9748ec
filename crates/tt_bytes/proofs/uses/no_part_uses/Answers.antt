use Rattle.std.proofs.Common.{rules}
use Rattle.tt_bytes.proofs.Unused.{no_uses}
use Rattle.tt_bytes.proofs.uses.no_part_uses.Goals as goal

pub returns : goal.returns
returns c parts long distinct = search (rules, long, distinct, no_uses)
