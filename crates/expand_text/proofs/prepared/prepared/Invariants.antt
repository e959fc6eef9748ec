-- What is built and what is left is all; and as many subtrees are open as are entered.
use Rattle.std.proofs.Common.{◌≡◌, ◌+◌, ◌*◌, length, reverse}
use Rattle.tt.specs.Building.{lowest, depth}
use Rattle.tt.specs.Forest.{size}
use Rattle.tt.specs.Iters.{rest_of}
use Rattle.tt.specs.Views.{trees_of}
use Rattle.expand_text.specs.Prepared.{prepared}
use Rattle.expand_text.proofs.Preparing.{finished, work_left}
use Rattle.expand_text.proofs.prepared.prepared.Given as goal

abbrev pub invariant-tokens : goal.invariant-tokens
invariant-tokens l =
    record {
      whole : finished l.root (reverse l.outer.items) l.part (rest_of l.rest) l.builder.stack ≡ lowest (prepared l.root (trees_of l.fn.trees));
      entered : depth l.builder.stack ≡ length l.outer.items;
      top : l.builder.top ≡ l.fn.delimiter;
    }

abbrev pub decreases-tokens : goal.decreases-tokens
decreases-tokens l = 2 * size (rest_of l.rest) + work_left (reverse l.outer.items)
