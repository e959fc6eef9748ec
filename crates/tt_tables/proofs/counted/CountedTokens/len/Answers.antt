use Rattle.tt_tables.proofs.Packing.{as_many_tokens}
use Rattle.tt_tables.proofs.counted.CountedTokens.len.Goals as goal

pub returns : goal.returns
returns c = as_many_tokens c.args.self.now
