use Rattle.tt_codec.proofs.ReadAgain.{reads_again}
use Rattle.tt_codec.proofs.span.Spanned.read.Goals as goal

pub returns-clause-again : goal.returns-clause-again
returns-clause-again c = reads_again c.args.from.now c.split.result c.split.ensures
