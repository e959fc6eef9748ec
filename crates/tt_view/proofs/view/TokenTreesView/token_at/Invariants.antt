use Rattle.std.proofs.Common.{◌≡◌}
use Rattle.std.specs.List.{slice_get}
use Rattle.tt_base.specs.Forest.{size, flat}
use Rattle.tt_view.specs.Views.{trees_of}
use Rattle.tt_view.proofs.view.TokenTreesView.token_at.Given as goal

-- The token is at the same place of the flat list, counted from the trees that are left.
abbrev pub invariant-loop-token : goal.invariant-loop-token
invariant-loop-token l = slice_get (flat (trees_of l.rest)) l.left ≡ slice_get (flat (trees_of l.fn.self)) l.place

abbrev pub decreases-loop-token : goal.decreases-loop-token
decreases-loop-token l = size (trees_of l.rest)
