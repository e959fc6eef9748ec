-- The new index of a part that is named by its place.
use Rattle.std.specs.Prelude.{ℕ, List}
use Rattle.tt_base.specs.declared.span.SpanPart.{SpanPart}
use Rattle.tt_tables.specs.TableOrder.{IsIn}
use Rattle.tt_tables.specs.Uses.{same_part}
use Rattle.tt_pack.specs.Places.{IsAt}
use Rattle.tt_pack.specs.TablesOf.{HasNewIndexAt}

-- each part of the table has its index in the table as the new index at its place
abbrev pub LeadsByPlace : (parts table : List SpanPart) (part_indices : List ℕ) → Type 0
LeadsByPlace parts table part_indices = (place : ℕ) (x : SpanPart) → IsAt parts place x → IsIn same_part table x → HasNewIndexAt same_part table part_indices place x
