use Rattle.std.proofs.Common.{◌≡◌, take}
use Rattle.tt.proofs.flat_list.made_small.Given as goal

abbrev pub invariant-loop-token : goal.invariant-loop-token
invariant-loop-token l = l.small ≡ take l.token-index l.tokens
