-- The added text and the text to come make the text before the mark.
use Rattle.std.proofs.Common.{◌≡◌, ◌-◌, ◌++◌, string_bytes, take}
use denote.Text.{Utf8}
use denote.Shadow.{shadow}
use Rattle.std.specs.List.{flat_map}
use Rattle.std.specs.Str.{chars}
use Rattle.syntax_diagnostic.specs.Mark.{indent, indent_of}
use Rattle.syntax_diagnostic.proofs.mark.add_indent.Given as goal

abbrev pub invariant-loop : goal.invariant-loop
invariant-loop l =
    shadow (Utf8 l.rest)
    × (string_bytes l.text ++ flat_map indent_of (take (l.column - l.counter) (chars l.rest)) ≡ string_bytes l.fn.text ++ indent l.line l.column)
