use Rattle.std.proofs.Common.{◌≡◌}
use Rattle.tt_base.specs.Forest.{size}
use Rattle.tt_base.specs.LastSpan.{last_span}
use Rattle.tt_view.proofs.Reading.{or_span}
use Rattle.tt_view.specs.Views.{trees_of}
use Rattle.tt_view.proofs.view.TokenTreesView.last_span.Given as goal

abbrev pub invariant-loop-token : goal.invariant-loop-token
invariant-loop-token l = or_span (last_span (trees_of l.rest)) l.last ≡ last_span (trees_of l.fn.self)

abbrev pub decreases-loop-token : goal.decreases-loop-token
decreases-loop-token l = size (trees_of l.rest)
