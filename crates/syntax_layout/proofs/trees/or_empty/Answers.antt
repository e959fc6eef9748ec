use Rattle.std.proofs.Common.{arith, refl}
use Rattle.std.proofs.lemmas.Bool.{false≢true}
use Rattle.syntax_layout.proofs.GapChunks.{no_gap}
use Rattle.syntax_layout.proofs.trees.or_empty.Goals as goal

pub returns-else-is_gap : goal.returns-else-is_gap
returns-else-is_gap c = record {
  gap = no_gap;
  short = omega arith;
  kept = λ gap short. absurd (false≢true (c.if-is_gap.ensures.1 (gap, short)));
  dropped = λ none. refl;
}
