-- So many tokens were passed.
use Rattle.std.proofs.Common.{◌≡◌, drop}
use Rattle.tt.specs.Forest.{flat}
use Rattle.tt.specs.SubtreeViews.{flat_rest}
use Rattle.expand_hygiene.proofs.binder.skip.Given as goal

abbrev pub invariant-loop : goal.invariant-loop
invariant-loop l = flat (flat_rest l.tokens) ≡ drop l.counter (flat (flat_rest l.fn.tokens))
