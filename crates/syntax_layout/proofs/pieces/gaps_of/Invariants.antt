-- The texts so far are gaps.
use Rattle.std.proofs.Common.{map}
use Rattle.syntax_layout.specs.Gap.{AreGaps}
use Rattle.syntax_layout.proofs.pieces.gaps_of.Given as goal

abbrev pub invariant-loop-piece : goal.invariant-loop-piece
invariant-loop-piece l = AreGaps (map (λ g. g.now) l.all.items)
