use Rattle.std.proofs.Common.{◌≡◌, ◌++◌, drop}
use Rattle.std.specs.Prelude.{string_bytes}
use Rattle.tt.specs.Stored.{packed}
use Rattle.app_console.specs.ViewText.{listed}
use Rattle.app_console.proofs.stored_lines.symbol_lines.Given as goal

abbrev pub invariant-loop-symbol : goal.invariant-loop-symbol
invariant-loop-symbol l = string_bytes l.text ++ listed (λ symbol. symbol) (drop l.symbol-index (packed l.tree).symbols) ≡ listed (λ symbol. symbol) (packed l.tree).symbols
