-- What the events so far capture is nothing, so that what the others capture is what all do.
use Rattle.std.proofs.Common.{◌≡◌, List, drop}
use Rattle.tt.specs.Forest.{flat}
use Rattle.tt.specs.SubtreeViews.{flat_rest}
use Rattle.tt.specs.Views.{trees_of}
use Rattle.expand_hygiene.specs.declared.mention.Mention.{Mention}
use Rattle.expand_hygiene.specs.Binders.{binders_among, binders_in}
use Rattle.expand_hygiene.specs.Captures.{first_capture}
use Rattle.expand_hygiene.specs.Given.{IsGiven}
use Rattle.expand_hygiene.proofs.binder.first_capture_in.Given as goal

abbrev pub invariant-loop-event : goal.invariant-loop-event
invariant-loop-event l =
    (input : List Mention) → IsGiven l.given input →
    first_capture input (binders_among l.names.items (flat (flat_rest l.tokens)) (drop l.event-index l.events)) ≡ first_capture input (binders_in (trees_of l.fn.trees) l.events)
