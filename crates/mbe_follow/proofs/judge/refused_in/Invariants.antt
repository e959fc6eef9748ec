-- The parts that are passed may come behind the fragment.
use Rattle.std.proofs.Common.{◌≡◌, drop}
use Rattle.mbe_follow.specs.Following.{first_refused}
use Rattle.mbe_follow.proofs.judge.refused_in.Given as goal

abbrev pub invariant-loop-next : goal.invariant-loop-next
invariant-loop-next l = first_refused l.fragment (drop l.next-index l.nexts) ≡ first_refused l.fragment l.nexts
