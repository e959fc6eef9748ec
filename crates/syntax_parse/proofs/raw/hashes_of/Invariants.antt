use Rattle.std.proofs.Common.{◌≡◌, ◌+◌, drop}
use Rattle.syntax_lex.specs.Closing.{hashes_of}
use Rattle.syntax_parse.proofs.raw.hashes_of.Given as goal

abbrev pub invariant-loop-i : goal.invariant-loop-i
invariant-loop-i l = l.i + hashes_of (drop l.i l.fn.text) ≡ hashes_of l.fn.text
