-- No byte so far is one of a control character.
use Rattle.std.proofs.Common.{◌≡◌, drop}
use Rattle.std.specs.List.{list_any}
use Rattle.expand_text.specs.Expecting.{is_control}
use Rattle.expand_text.proofs.expecting.has_control.Given as goal

abbrev pub invariant-loop-byte : goal.invariant-loop-byte
invariant-loop-byte l = list_any is_control (drop l.byte-index l.text) ≡ list_any is_control l.text
