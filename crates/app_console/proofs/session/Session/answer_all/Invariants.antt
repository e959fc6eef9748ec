-- What was read was fed to the session, and nothing has failed.
use Rattle.std.proofs.Common.{◌≡◌, false}
use Rattle.app_console.specs.Noted.{noted_inner, noted_failed, reads_left}
use Rattle.app_console.specs.Stage.{stage_of}
use Rattle.app_console.proofs.Reporting.{Reads}
use Rattle.app_console.proofs.session.Session.answer_all.Given as goal

abbrev pub invariant-reading : goal.invariant-reading
invariant-reading g l =
    Reads (stage_of g.W.Write.contents l.self l.writer) (g.R.Read.remaining (noted_inner l.initial.reader))
    (g.R.Read.remaining (noted_inner l.reader)) (g.W.Write.contents (noted_inner l.initial.writer))
    × (noted_failed l.reader ≡ false) × (noted_failed l.writer ≡ false)

abbrev pub decreases-reading : goal.decreases-reading
decreases-reading g l = reads_left l.reader
