use Rattle.std.proofs.Common.{◌≡◌, ◌||◌, drop}
use Rattle.syntax_parse.specs.Inside.{inner_return}
use Rattle.syntax_parse.proofs.Returns.{behind_return}
use Rattle.syntax_parse.proofs.inside.inner_return.Given as goal

abbrev pub invariant-loop-byte : goal.invariant-loop-byte
invariant-loop-byte l = (l.found || inner_return (behind_return l.pending (drop l.byte-index l.fn.text))) ≡ inner_return l.fn.text
