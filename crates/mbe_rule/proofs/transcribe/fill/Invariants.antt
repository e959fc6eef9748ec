-- What is placed, with what is left, is the filled template.
use Rattle.std.proofs.Common.{◌≡◌, ◌+◌, ◌*◌, map, length, reverse}
use Rattle.std.specs.List.{zip}
use Rattle.tt.specs.Building.{lowest}
use Rattle.tt.specs.SubtreeViews.{root_of}
use Rattle.tt.specs.Views.{trees_of}
use Rattle.mbe_rule.specs.Instances.{filled}
use Rattle.mbe_rule.proofs.Filling.{finished, tokens_left}
use Rattle.mbe_rule.proofs.transcribe.fill.Given as goal

abbrev pub invariant-loop-level : goal.invariant-loop-level
invariant-loop-level l =
    record {
      top : l.builder.top ≡ l.fn.builder.top;
      whole : finished (zip l.names.keys (map trees_of l.taken)) (reverse l.levels.items) l.builder.stack ≡ lowest (filled (zip l.names.keys (map trees_of l.taken)) (root_of l.fn.template).children);
    }

abbrev pub decreases-loop-level : goal.decreases-loop-level
decreases-loop-level l = 2 * tokens_left (reverse l.levels.items) + length l.levels.items
