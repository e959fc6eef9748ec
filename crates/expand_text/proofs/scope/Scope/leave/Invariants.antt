-- The first macros are those from before.
use Rattle.std.proofs.Common.{◌≡◌, length, take}
use Rattle.expand_text.proofs.scope.Scope.leave.Given as goal

abbrev pub invariant-loop-self : goal.invariant-loop-self
invariant-loop-self l = take l.len l.self.macros.items ≡ take l.len l.initial.self.macros.items

abbrev pub decreases-loop-self : goal.decreases-loop-self
decreases-loop-self l = length l.self.macros.items
