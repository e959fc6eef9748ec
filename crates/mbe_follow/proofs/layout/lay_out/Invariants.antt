-- What was cut, and what is left, are the pieces of the whole.
use Rattle.std.proofs.Common.{◌≡◌, ◌++◌, length}
use Rattle.tt.specs.Iters.{rest_of}
use Rattle.mbe_pattern.specs.Placed.{pattern_of}
use Rattle.mbe_follow.specs.Following.{part_count}
use Rattle.mbe_follow.specs.Pieces.{all_pieces, pieces_left, after_levels, levels_left}
use Rattle.mbe_follow.proofs.Cutting.{work_of}
use Rattle.mbe_follow.proofs.layout.lay_out.Given as goal

abbrev pub invariant-loop-level : goal.invariant-loop-level
invariant-loop-level l =
    record {
      pieces : l.layout.pieces.items ++ pieces_left (length l.layout.spans.items) (levels_left l.layout.levels.items) ≡ all_pieces (pattern_of (rest_of l.fn.pattern));
      numbers : after_levels (length l.layout.spans.items) (levels_left l.layout.levels.items) ≡ part_count (pattern_of (rest_of l.fn.pattern));
    }

abbrev pub decreases-loop-level : goal.decreases-loop-level
decreases-loop-level l = work_of (levels_left l.layout.levels.items)
