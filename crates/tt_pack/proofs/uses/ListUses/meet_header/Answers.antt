use Rattle.tt_base.specs.Span.{part_of}
use Rattle.tt_pack.specs.Meeting.{MeetsPart}
use Rattle.tt_pack.proofs.Meeting.{can_meet_on, meets_header}
use Rattle.tt_pack.proofs.uses.ListUses.meet_header.Goals as goal

pub part_index-requires-2 : goal.part_index-requires-2
part_index-requires-2 g c =
    let has_met = g.V.Values.has_met in
    let opens : MeetsPart has_met c.args.values.now c.part_index.new.self (part_of c.args.header.delimiter.open_span) c.in-Some.part = rw c.in-Some.is at c.in_ok-part.ensures.met in
    can_meet_on has_met _ _ _ _ 1 0 opens c.requires

pub returns-clause-met : goal.returns-clause-met
returns-clause-met g c =
    let has_met = g.V.Values.has_met in
    let opens : MeetsPart has_met c.args.values.now c.part_index.new.self (part_of c.args.header.delimiter.open_span) c.in-Some.part = rw c.in-Some.is at c.in_ok-part.ensures.met in
    let closes : MeetsPart has_met c.part_index.new.self c.part_index-2.new.self (part_of c.args.header.delimiter.close) c.in-Some-2.other = rw c.in-Some-2.is at c.in_ok-other.ensures.met in
    meets_header has_met _ _ _ c.args.header (record { part = c.in-Some.part; other = c.in-Some-2.other }) opens closes
