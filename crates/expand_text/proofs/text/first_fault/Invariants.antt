-- All findings before are warnings.
use Rattle.std.proofs.Common.{◌≡◌, drop}
use Rattle.expand_text.specs.Expansion.{first_fault}
use Rattle.expand_text.proofs.text.first_fault.Given as goal

abbrev pub invariant-loop-place : goal.invariant-loop-place
invariant-loop-place l = first_fault l.findings ≡ first_fault (drop l.place l.findings)
