use Rattle.std.proofs.Common.{◌≡◌, ◌||◌, nat_le, drop}
use Rattle.std.specs.List.{list_any}
use Rattle.syntax_parse.proofs.inside.beyond_ascii.Given as goal

abbrev pub invariant-loop-byte : goal.invariant-loop-byte
invariant-loop-byte l = (l.found || list_any (nat_le 128) (drop l.byte-index l.fn.text)) ≡ list_any (nat_le 128) l.fn.text
