use Rattle.std.proofs.Common.{◌≡◌, ◌++◌, length}
use Rattle.std.specs.Prelude.{string_bytes}
use Rattle.tt.specs.Views.{trees_of}
use Rattle.tt.specs.Walk.{walk, events_ahead}
use Rattle.app_console.specs.ViewText.{listed, event_words}
use Rattle.app_console.proofs.walk_lines.walk_lines.Given as goal

abbrev pub invariant-loop-text : goal.invariant-loop-text
invariant-loop-text l = string_bytes l.text ++ listed event_words (events_ahead l.cursor) ≡ listed event_words (walk (trees_of l.fn.trees))

abbrev pub decreases-loop-text : goal.decreases-loop-text
decreases-loop-text l = length (events_ahead l.cursor)
