-- What is added so far, and what is left.
use Rattle.std.proofs.Common.{◌≡◌}
use Rattle.tt.specs.Building.{append}
use Rattle.tt.specs.Forest.{size}
use Rattle.tt.specs.Iters.{rest_of}
use Rattle.tt.specs.Views.{trees_of}
use Rattle.expand_items.specs.Attributes.{conditions_of}
use Rattle.expand_items.proofs.spread.add_conditions.Given as goal

abbrev pub invariant-attributes : goal.invariant-attributes
invariant-attributes l =
    record {
      added : append (conditions_of (rest_of l.trees)) l.builder.stack ≡ append (conditions_of (trees_of l.fn.attributes)) l.fn.builder.stack;
      top : l.builder.top ≡ l.fn.builder.top;
    }

abbrev pub decreases-attributes : goal.decreases-attributes
decreases-attributes l = size (rest_of l.trees)
