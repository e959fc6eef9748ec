-- What is no longer in `rest` was written, and no write has failed.
use Rattle.std.proofs.Common.{◌≡◌, ◌++◌, ℕ, List, length}
use Rattle.std.specs.Io.KnownBytes.{Appends}
use Rattle.app_console.specs.Noted.{noted_inner, noted_failed}
use Rattle.app_console.proofs.noted.NotedWrite.write_all.Given as goal

abbrev pub invariant-writing : goal.invariant-writing
invariant-writing g l =
    ((taken : List ℕ) × (l.buf ≡ taken ++ l.rest) × Appends (g.W.Write.contents (noted_inner l.initial.self)) (g.W.Write.contents (noted_inner l.self)) taken)
    × (noted_failed l.self ≡ noted_failed l.initial.self)

abbrev pub decreases-writing : goal.decreases-writing
decreases-writing g l = length l.rest
