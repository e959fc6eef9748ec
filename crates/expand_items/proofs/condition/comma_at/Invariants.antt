-- So many trees are passed, and the first `,` comes after the rest of them.
use Rattle.std.proofs.Common.{◌≡◌, ◌+◌, ◌≤◌}
use Rattle.tt.specs.Forest.{size}
use Rattle.tt.specs.Iters.{rest_of}
use Rattle.expand_items.specs.Conditions.{comma_at}
use Rattle.expand_items.proofs.condition.comma_at.Given as goal

abbrev pub invariant-trees : goal.invariant-trees
invariant-trees l =
    record {
      len : l.len + comma_at (rest_of l.trees) ≡ comma_at (rest_of l.fn.trees);
      fits : l.len + size (rest_of l.trees) ≤ size (rest_of l.fn.trees);
    }

abbrev pub decreases-trees : goal.decreases-trees
decreases-trees l = size (rest_of l.trees)
