-- The digest so far and the bytes that are left lead to the digest of all.
use Rattle.std.proofs.Common.{◌≡◌, drop}
use Rattle.std.specs.List.{fold}
use Rattle.tt_bytes.specs.Digest.{joined, short_digest}
use Rattle.tt_bytes.proofs.distinct.short_digest.Given as goal

abbrev pub invariant-loop-byte : goal.invariant-loop-byte
invariant-loop-byte l = fold joined l.digest (drop l.byte-index l.text) ≡ short_digest l.text
