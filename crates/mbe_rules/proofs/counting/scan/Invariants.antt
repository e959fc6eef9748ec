-- What was counted, with what is ahead, is everything; at most as many repetitions are open as parts were passed.
use Rattle.std.proofs.Common.{◌≡◌, ◌-◌, ◌≤◌, drop, length, map}
use Rattle.mbe_matcher.specs.Bindings.{Binding}
use Rattle.mbe_rules.specs.declared.counting.Count.TheVariants.{Unknown}
use Rattle.mbe_rules.specs.Counting.{counted_all, uses_before, kind_before, behind_close}
use Rattle.mbe_rules.specs.Transcribing.{counts_of}
use Rattle.mbe_rules.specs.Parts.{bit_of}
use Rattle.mbe_rules.specs.Rounds.{AreTaken, binding_in, dones}
use Rattle.mbe_rules.proofs.counting.scan.Given as goal

abbrev pub invariant-loop-part : goal.invariant-loop-part
invariant-loop-part l =
    record {
      few : l.open ≤ l.at;
      count :
          (binding : Binding) → AreTaken binding l.taken
          → counted_all (counts_of (binding_in (dones l.rounds) binding) (uses_before l.open (map bit_of (drop l.at l.parts)))) l.count
          ≡ counted_all (counts_of (binding_in (dones l.rounds) binding) (uses_before 0 (map bit_of (drop l.body l.parts)))) Unknown;
      kind : kind_before l.open (map bit_of (drop l.at l.parts)) ≡ kind_before 0 (map bit_of (drop l.body l.parts));
      behind : behind_close l.open (map bit_of (drop l.at l.parts)) ≡ behind_close 0 (map bit_of (drop l.body l.parts));
    }

abbrev pub decreases-loop-part : goal.decreases-loop-part
decreases-loop-part l = length l.parts - l.at
