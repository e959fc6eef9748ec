-- So many trees are passed, and the attributes that are left are the rest of them.
use Rattle.std.proofs.Common.{◌≡◌, ◌+◌, ◌≤◌}
use Rattle.tt.specs.Forest.{size}
use Rattle.tt.specs.Iters.{rest_of}
use Rattle.expand_items.specs.Attributes.{attributes_len}
use Rattle.expand_items.proofs.attribute.attributes_len.Given as goal

abbrev pub invariant-loop-trees : goal.invariant-loop-trees
invariant-loop-trees l =
    record {
      len : l.len + attributes_len (rest_of l.trees) ≡ attributes_len (rest_of l.fn.trees);
      fits : l.len + size (rest_of l.trees) ≤ size (rest_of l.fn.trees);
    }

abbrev pub decreases-loop-trees : goal.decreases-loop-trees
decreases-loop-trees l = size (rest_of l.trees)
