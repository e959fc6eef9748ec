-- The text written so far, and that of the siblings to come, are the whole text.
use Rattle.std.proofs.Common.{◌≡◌, ◌+◌, ◌*◌, ◌≤◌, ℕ, List, ◌++◌, false}
use Rattle.std.specs.Fmt.{HasWritten, IsPlainFormatter}
use Rattle.tt_base.specs.Forest.{size}
use Rattle.tt_base.specs.TreeText.{is_alone, siblings_text}
use Rattle.tt_view.specs.Iters.{rest_of, tree_of}
use Rattle.tt_view.specs.SiblingText.{tree_size}
use Rattle.tt_view.proofs.display.+write.Given as goal

abbrev pub decreases-write_siblings : goal.decreases-write_siblings
decreases-write_siblings g l = 2 * size (rest_of l.siblings) + 1

abbrev pub decreases-write_sibling : goal.decreases-write_sibling
decreases-write_sibling g l = 2 * tree_size (tree_of l.sibling)

abbrev pub invariant-write_siblings-loop-sibling : goal.invariant-write_siblings-loop-sibling
invariant-write_siblings-loop-sibling g l =
    record {
      fewer : size (rest_of l.siblings) ≤ size (rest_of l.fn.siblings);
      written : IsPlainFormatter l.initial.f → (done : List ℕ) × HasWritten g.W.Write.write_str_gives l.initial.f done l.f
          × (done ++ siblings_text is_alone l.due (rest_of l.siblings) ≡ siblings_text is_alone false (rest_of l.fn.siblings));
    }

abbrev pub decreases-write_siblings-loop-sibling : goal.decreases-write_siblings-loop-sibling
decreases-write_siblings-loop-sibling g l = size (rest_of l.siblings)
