-- The digests so far are those of the symbols so far.
use Rattle.std.proofs.Common.{◌≡◌, map, take}
use Rattle.tt_bytes.specs.Digest.{digest_of}
use Rattle.tt_bytes.proofs.distinct.digests.Given as goal

abbrev pub invariant-loop-symbol : goal.invariant-loop-symbol
invariant-loop-symbol l = l.digests.items ≡ map digest_of (take l.symbol-index l.symbols)
