-- What is built and what is left is all; and as many subtrees are open as are entered.
use Rattle.std.proofs.Common.{◌≡◌, ◌+◌, ◌*◌, length}
use Rattle.tt.specs.Building.{lowest, depth}
use Rattle.tt.specs.Forest.{size}
use Rattle.tt.specs.Iters.{rest_of}
use Rattle.tt.specs.Views.{trees_of}
use Rattle.expand_items.specs.Loosening.{loosened, place_of}
use Rattle.expand_items.proofs.BuiltSoFar.{opens}
use Rattle.expand_items.proofs.Rebuilding.{finished, work_left}
use Rattle.expand_items.proofs.loosening.loosened.Given as goal

abbrev pub invariant-tokens : goal.invariant-tokens
invariant-tokens l =
    record {
      whole : finished loosened (opens l.outer.items) l.place (rest_of l.rest) l.builder.stack ≡ lowest (loosened (place_of l.fn.enclosure l.fn.position) (trees_of l.fn.trees));
      entered : depth l.builder.stack ≡ length l.outer.items;
      top : l.builder.top ≡ l.fn.delimiter;
    }

abbrev pub decreases-tokens : goal.decreases-tokens
decreases-tokens l = 2 * size (rest_of l.rest) + work_left (opens l.outer.items)
