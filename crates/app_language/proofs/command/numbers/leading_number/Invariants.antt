use Rattle.std.proofs.Common.{◌≡◌, take}
use Rattle.std.specs.Str.Parse.{AllDigits, digits_value}
use Rattle.app_language.proofs.command.numbers.leading_number.Given as goal

abbrev pub invariant-loop-i : goal.invariant-loop-i
invariant-loop-i l = record {
  digits : AllDigits 10 (take l.i l.text);
  value : l.value ≡ digits_value 10 (take l.i l.text);
}
