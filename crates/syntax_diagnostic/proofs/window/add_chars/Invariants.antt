-- The added text and the text to come make the text that is wanted.
use Rattle.std.proofs.Common.{◌≡◌, ◌-◌, ◌++◌, map, string_bytes, take}
use denote.Text.{Utf8}
use denote.Shadow.{shadow}
use Rattle.std.specs.Prelude.{encode_utf8_all}
use Rattle.std.specs.Str.{chars}
use Rattle.syntax_diagnostic.specs.Mark.{shown_char}
use Rattle.syntax_diagnostic.proofs.window.add_chars.Given as goal

abbrev pub invariant-loop : goal.invariant-loop
invariant-loop l =
    shadow (Utf8 l.rest)
    × (string_bytes l.text ++ encode_utf8_all (map shown_char (take (l.count - l.counter) (chars l.rest))) ≡ string_bytes l.fn.text ++ encode_utf8_all (map shown_char (take l.count (chars l.line))))
