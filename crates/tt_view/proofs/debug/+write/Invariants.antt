-- The lines written so far, and those of the siblings to come, are all lines.
use Rattle.std.proofs.Common.{◌≡◌, ◌+◌, ◌*◌, ◌≤◌, ℕ, List, ◌++◌}
use Rattle.std.specs.Fmt.{HasWritten, IsPlainFormatter}
use Rattle.tt_base.specs.DebugText.{lines_text}
use Rattle.tt_base.specs.Forest.{size}
use Rattle.tt_view.specs.Iters.{rest_of, tree_of}
use Rattle.tt_view.specs.SiblingText.{tree_size}
use Rattle.tt_view.proofs.debug.+write.Given as goal

abbrev pub decreases-write_lines : goal.decreases-write_lines
decreases-write_lines g l = 2 * size (rest_of l.siblings) + 1

abbrev pub decreases-write_tree : goal.decreases-write_tree
decreases-write_tree g l = 2 * tree_size (tree_of l.tree)

abbrev pub invariant-write_lines-loop-sibling : goal.invariant-write_lines-loop-sibling
invariant-write_lines-loop-sibling g l =
    record {
      fewer : size (rest_of l.siblings) ≤ size (rest_of l.fn.siblings);
      written : IsPlainFormatter l.initial.f → (done : List ℕ) × HasWritten g.W.Write.write_str_gives l.initial.f done l.f
          × (done ++ lines_text l.due l.depth (rest_of l.siblings) ≡ lines_text l.fn.due l.depth (rest_of l.fn.siblings));
    }

abbrev pub decreases-write_lines-loop-sibling : goal.decreases-write_lines-loop-sibling
decreases-write_lines-loop-sibling g l = size (rest_of l.siblings)
