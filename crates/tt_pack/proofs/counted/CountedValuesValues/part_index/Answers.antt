use Rattle.std.proofs.Common.{sym, subst, ap, ◌∙◌}
use Rattle.tt_base.specs.contracts.span.SpanPartEq.TheImpl.Laws as part_eq
use Rattle.tt_base.specs.Span.{part_of}
use Rattle.tt_tables.specs.Uses.{same_part}
use Rattle.tt_tables.proofs.TokenTables.{part_sound}
use Rattle.tt_pack.specs.Counted.{count_use, HasRoomFor}
use Rattle.tt_pack.specs.TablesOf.{StandsAt}
use Rattle.indexmap.specs.IndexMap.{keys}
use Rattle.tt_pack.proofs.Counting.{room_counted}
use Rattle.tt_pack.proofs.CountedValues.{meets_counted}
use Rattle.tt_pack.proofs.counted.CountedValuesValues.part_index.Goals as goal

pub count_near-requires-clause-room : goal.count_near-requires-clause-room
count_near-requires-clause-room c = subst (HasRoomFor 1) (sym c.requires.met.all_parts) (room_counted same_part 1 c.requires.parts c.requires.few_parts)

pub returns-clause-met : goal.returns-clause-met
returns-clause-met c parts symbols met =
    let (counted, stands) =
    meets_counted same_part part_eq.lawful.laws part_sound parts c.args.self.now.parts.entries c.count_near.new.counts.entries (part_of c.args.span.now) c.in_ok-count_near.field-0
    met.all_parts (c.in_ok-count_near.ensures.counts ∙ ap (count_use same_part c.args.self.now.parts.entries) c.from_span-part.ensures)
    (subst (StandsAt (keys c.count_near.new.counts) c.in_ok-count_near.field-0) c.from_span-part.ensures c.in_ok-count_near.ensures.index) in
    (record { all_parts = counted; all_symbols = met.all_symbols }, stands)
