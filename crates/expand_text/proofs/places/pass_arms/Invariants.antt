-- So many arms are passed.
use Rattle.std.proofs.Common.{◌≡◌, ◌*◌}
use Rattle.tt.specs.Gluing.{after_trees}
use Rattle.tt.specs.Iters.{rest_of}
use Rattle.expand_text.specs.Places.{arm_len}
use Rattle.expand_text.proofs.places.pass_arms.Given as goal

abbrev pub invariant-loop : goal.invariant-loop
invariant-loop l = rest_of l.trees ≡ after_trees (l.counter * arm_len) (rest_of l.fn.trees)
