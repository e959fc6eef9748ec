-- The faults so far are those that are passed.
use Rattle.std.proofs.Common.{◌≡◌, map, take}
use Rattle.tt.specs.Iters.{rest_of}
use Rattle.expand_text.specs.Shown.{shown_at}
use Rattle.expand_text.proofs.shown.placed.Given as goal

abbrev pub invariant-loop-error : goal.invariant-loop-error
invariant-loop-error l = l.faults.items ≡ map (shown_at (rest_of l.arms) l.behind) (take l.error-index l.errors)
