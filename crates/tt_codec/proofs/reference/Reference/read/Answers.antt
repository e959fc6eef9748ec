use Rattle.tt_codec.proofs.ReadAgain.{refers_again}
use Rattle.tt_codec.proofs.reference.Reference.read.Goals as goal

pub returns-clause-again : goal.returns-clause-again
returns-clause-again c = refers_again c.args.from.now c.split.result c.split.ensures
