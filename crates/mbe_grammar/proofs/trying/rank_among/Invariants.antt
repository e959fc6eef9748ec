-- The rank is that among the numbers that are left, and those before.
use Rattle.std.proofs.Common.{length, ◌-◌, ◌≡◌, ◌+◌, ◌≤◌, drop}
use Rattle.mbe_grammar.specs.Tried.{rank_among}
use Rattle.mbe_grammar.proofs.trying.rank_among.Given as goal

pub record Ranks (Within Same : Type 0) : Type 0 where
  pub within : Within
  pub same : Same

abbrev pub invariant-loop-rank : goal.invariant-loop-rank
invariant-loop-rank l = Ranks (l.rank ≤ length l.numbers) (rank_among l.it l.numbers ≡ l.rank + rank_among l.it (drop l.rank l.numbers))

abbrev pub decreases-loop-rank : goal.decreases-loop-rank
decreases-loop-rank l = length l.numbers - l.rank
