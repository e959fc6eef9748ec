use Rattle.tt_codec.proofs.ReadAgain.{entry_reads_again}
use Rattle.tt_codec.proofs.entry.Entry.read.Goals as goal

pub returns-clause-again : goal.returns-clause-again
returns-clause-again c = entry_reads_again c.args.from.now c.split.result c.split.ensures
