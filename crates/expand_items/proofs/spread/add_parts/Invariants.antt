-- What is added so far, and what is left.
use Rattle.std.proofs.Common.{◌≡◌, drop}
use Rattle.tt.specs.Building.{append}
use Rattle.tt.specs.Iters.{rest_of}
use Rattle.tt.specs.Views.{trees_of}
use Rattle.expand_items.specs.Spreads.{spread}
use Rattle.expand_items.specs.Attributes.{conditions_of}
use Rattle.expand_items.proofs.spread.add_parts.Given as goal

abbrev pub invariant-loop-place : goal.invariant-loop-place
invariant-loop-place l =
    record {
      added :
          append (spread l.braces (conditions_of (trees_of l.attributes)) l.place (drop l.place l.parts) (rest_of l.trees)) l.builder.stack
          ≡ append (spread l.braces (conditions_of (trees_of l.attributes)) 0 l.parts (rest_of l.fn.trees)) l.fn.builder.stack;
      top : l.builder.top ≡ l.fn.builder.top;
    }
