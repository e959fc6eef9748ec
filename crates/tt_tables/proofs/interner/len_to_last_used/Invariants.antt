-- The numbers after the index are 0.
use Rattle.std.proofs.Common.{◌≡◌, ◌-◌, drop, length}
use Rattle.std.specs.List.{AllByRecursion}
use Rattle.tt_tables.proofs.interner.len_to_last_used.Given as goal

abbrev pub invariant-loop-unused : goal.invariant-loop-unused
invariant-loop-unused l = AllByRecursion (λ number. number ≡ 0) (drop (length l.numbers - l.unused) l.numbers)
