use Rattle.tt_bytes.specs.Digest.{digest_of}
use Rattle.tt_bytes.proofs.Apartness.{texts_apart}
use Rattle.tt_bytes.proofs.distinct.symbols_differ.Goals as goal

pub returns-then-branch : goal.returns-then-branch
returns-then-branch c answer = texts_apart digest_of c.args.symbols.now (c.in_ok-digests_differ.ensures.0 c.if-branch.true)
