-- What is no longer in `rest` was fed.
use Rattle.std.proofs.Common.{◌≡◌, ◌++◌, ℕ, List, length, false}
use Rattle.app_console.specs.Noted.{noted_failed}
use Rattle.app_console.specs.Stage.{stage_of}
use Rattle.app_console.specs.Session.{Follows}
use Rattle.app_console.proofs.session.Session.feed.Given as goal

abbrev pub invariant-lines : goal.invariant-lines
invariant-lines g l =
    ((fed : List ℕ) × (l.bytes ≡ fed ++ l.rest)
    × Follows (stage_of g.W.Write.contents l.initial.self l.initial.writer) fed (stage_of g.W.Write.contents l.self l.writer))
    × (noted_failed l.writer ≡ false)

abbrev pub decreases-lines : goal.decreases-lines
decreases-lines g l = length l.rest
