-- So many trees are passed, and the others are left.
use Rattle.std.proofs.Common.{◌≡◌, ◌+◌, ◌≤◌, length}
use Rattle.tt.specs.Forest.{size}
use Rattle.tt.specs.Iters.{rest_of}
use Rattle.tt.specs.Siblings.{list_of}
use Rattle.expand_items.proofs.inactive.trees_len.Given as goal

abbrev pub invariant-trees : goal.invariant-trees
invariant-trees l =
    record {
      len : l.len + length (list_of (rest_of l.trees)) ≡ length (list_of (rest_of l.fn.trees));
      fits : l.len + size (rest_of l.trees) ≤ size (rest_of l.fn.trees);
    }

abbrev pub decreases-trees : goal.decreases-trees
decreases-trees l = size (rest_of l.trees)
