-- The pieces given, and those to come, are all.
use Rattle.std.proofs.Common.{◌≡◌, ◌++◌, [], map, cond}
use Rattle.tt.specs.Pieces.{left_in, is_done}
use Rattle.tt.specs.Siblings.{list_of}
use Rattle.std.specs.List.{slice_split}
use Rattle.test_contracts.specs.Commas.{is_comma}
use Rattle.test_contracts.specs.ViewTrees.{view_trees}
use Rattle.test_contracts.proofs.commas.arguments.Given as goal

abbrev pub invariant-loop-piece : goal.invariant-loop-piece
invariant-loop-piece l =
    (goal.iterator-loop-piece).can_next l.piece-iterator
    × (goal.iterator-loop-piece).is_finite l.piece-iterator
    × (map view_trees l.list.items ++ cond (is_done l.piece-iterator) [] (slice_split is_comma (list_of (left_in l.piece-iterator))) ≡ slice_split is_comma (view_trees l.fn.trees))
