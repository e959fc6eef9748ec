use Rattle.std.proofs.Common.{◌≡◌, ◌≤◌, drop, length}
use Rattle.indexmap.specs.IndexMap.{get}
use Rattle.tt_base.specs.declared.span.SpanPart.{SpanPart}
use Rattle.tt_tables.specs.Uses.{same_part}
use Rattle.tt_view.specs.NewIds.{id_for}
use Rattle.tt_view.proofs.top_subtree.ast_ids.by_part.Given as goal

-- The parts from the index on are found.
abbrev pub invariant-loop-index : goal.invariant-loop-index
invariant-loop-index l =
    (l.index ≤ length l.parts) × ((part : SpanPart) → get same_part l.found part ≡ id_for (drop l.index l.parts) (drop l.index l.ids) part)

abbrev pub decreases-loop-index : goal.decreases-loop-index
decreases-loop-index l = l.index
