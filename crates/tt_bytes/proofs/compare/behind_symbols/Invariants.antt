use Rattle.std.proofs.Common.{List, ℕ, Option, drop}
use Rattle.std.specs.Borrow.{Bor}
use Rattle.std.specs.List.{AllByRecursion}
use Rattle.tt_bytes.specs.Behind.{IsBehind}
use Rattle.tt_bytes.specs.Format.{symbols_bytes, TextFits}
use Rattle.tt_bytes.proofs.compare.behind_symbols.Given as goal

abbrev pub invariant-loop-symbol : goal.invariant-loop-symbol
invariant-loop-symbol l =
    (result : Option (Bor (List ℕ))) → IsBehind (AllByRecursion TextFits (drop l.symbol-index l.symbols)) (symbols_bytes (drop l.symbol-index l.symbols)) l.rest result
    → IsBehind (AllByRecursion TextFits l.symbols) (symbols_bytes l.symbols) l.from result
