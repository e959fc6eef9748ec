-- The places so far.
use Rattle.std.proofs.Common.{◌≡◌, map, take}
use Rattle.expand_items.proofs.macro_rules_item.lefts.Given as goal

abbrev pub invariant-loop-it : goal.invariant-loop-it
invariant-loop-it l = l.places.items ≡ map (λ it. it.left) (take l.it-index l.found)
