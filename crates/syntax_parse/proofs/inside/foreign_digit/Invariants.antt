use Rattle.std.proofs.Common.{◌≡◌, ◌||◌, drop}
use Rattle.std.specs.List.{list_any}
use Rattle.syntax_parse.specs.Inside.{is_foreign_digit}
use Rattle.syntax_parse.proofs.inside.foreign_digit.Given as goal

abbrev pub invariant-loop-byte : goal.invariant-loop-byte
invariant-loop-byte l = (l.found || list_any (is_foreign_digit l.fn.base) (drop l.byte-index l.fn.text)) ≡ list_any (is_foreign_digit l.fn.base) l.fn.text
