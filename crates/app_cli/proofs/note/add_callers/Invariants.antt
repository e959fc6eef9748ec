-- The notes so far, and then those of the calls that are left.
use Rattle.std.proofs.Common.{◌≡◌, ◌++◌, drop, map}
use Rattle.app_cli.proofs.note.add_callers.Given as goal
use Rattle.app_cli.specs.Notes.{caller_note, note_of}

abbrev pub invariant-loop-it : goal.invariant-loop-it
invariant-loop-it l =
    map note_of l.notes.items ++ map caller_note (map (λ it. it.now) (drop l.it-index l.its)) ≡ map note_of l.fn.notes.items ++ map caller_note (map (λ it. it.now) l.its)
