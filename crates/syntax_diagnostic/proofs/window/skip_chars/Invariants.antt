-- What is left to pass.
use Rattle.std.proofs.Common.{◌≡◌, ◌-◌, drop}
use denote.Text.{Utf8}
use denote.Shadow.{shadow}
use Rattle.std.specs.Str.{chars}
use Rattle.syntax_diagnostic.proofs.window.skip_chars.Given as goal

abbrev pub invariant-loop : goal.invariant-loop
invariant-loop l = shadow (Utf8 l.rest) × (drop (l.count - l.counter) (chars l.rest) ≡ drop l.count (chars l.text))
