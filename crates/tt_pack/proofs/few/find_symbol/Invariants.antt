-- No symbol so far is the one that is looked for.
use Rattle.std.proofs.Common.{◌≡◌, false, take, bytes_eq}
use Rattle.std.specs.List.{list_any}
use Rattle.tt_pack.proofs.few.find_symbol.Given as goal

abbrev pub invariant-loop-index : goal.invariant-loop-index
invariant-loop-index l = list_any (λ other. bytes_eq other l.symbol) (take l.index l.symbols) ≡ false
