-- The gaps so far fit those that were asked for.
use Rattle.std.proofs.Common.{map, take}
use Rattle.syntax_layout.specs.Layout.{AreFit}
use Rattle.syntax_layout.proofs.trees.fit.Given as goal

abbrev pub invariant-loop-gap : goal.invariant-loop-gap
invariant-loop-gap l = AreFit (map (λ g. g.now) (take l.gap-index l.gaps)) (map (λ g. g.now) l.all.items)
