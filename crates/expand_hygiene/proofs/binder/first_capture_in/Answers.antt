use Rattle.std.proofs.Common.{suc, drop, drop-cons}
use Rattle.expand_hygiene.proofs.Walking.{event_found}
use Rattle.expand_hygiene.proofs.binder.first_capture_in.Goals as goal

pub returns-in-Some : goal.returns-in-Some
returns-in-Some c mentions given =
    let after = drop (suc c.loop-event.event-index) c.args.events.now in
    event_found mentions _ _ _ _ _ _ _ _ (drop-cons c.args.events.now c.loop-event.event-index _ c.loop-event-test.true) c.in-Some.is
    (c.in_ok-found.ensures mentions given after) (c.loop-event.invariant mentions given)
