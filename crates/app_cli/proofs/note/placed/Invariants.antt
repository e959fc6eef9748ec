-- The notes so far, and then those that are left.
use Rattle.std.proofs.Common.{List, ◌++◌, drop, map}
use Rattle.app_cli.proofs.note.placed.Given as goal
use Rattle.app_cli.specs.Notes.{ArePlaced, note_of}
use Rattle.syntax_diagnostic.specs.declared.diagnostic.PlacedNote.{PlacedNote}

abbrev pub invariant-loop-note : goal.invariant-loop-note
invariant-loop-note l =
    record {
      placed : (others : List PlacedNote) → ArePlaced l.source.name.now l.source.text.now (map note_of (drop l.note-index l.notes)) others
          → ArePlaced l.source.name.now l.source.text.now (map note_of l.notes) (l.its.items ++ others);
    }
