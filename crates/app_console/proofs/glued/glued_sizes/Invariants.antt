use Rattle.std.proofs.Common.{◌≡◌, ◌++◌, length}
use Rattle.std.specs.Prelude.{codes, string_bytes}
use Rattle.std.specs.List.{flat_map}
use Rattle.tt.specs.Gluing.{glued_sizes}
use Rattle.tt.specs.Iters.{rest_of}
use Rattle.tt.specs.Siblings.{list_of}
use Rattle.app_console.specs.ViewText.{glued_size}
use Rattle.app_console.proofs.glued.glued_sizes.Given as goal

abbrev pub invariant-loop-siblings : goal.invariant-loop-siblings
invariant-loop-siblings l =
    string_bytes l.text ++ flat_map glued_size (glued_sizes (rest_of l.siblings)) ≡ codes "glue" ++ flat_map glued_size (glued_sizes (rest_of l.fn.siblings))

abbrev pub decreases-loop-siblings : goal.decreases-loop-siblings
decreases-loop-siblings l = length (list_of (rest_of l.siblings))
