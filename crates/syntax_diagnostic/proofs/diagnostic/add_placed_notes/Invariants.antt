use Rattle.std.proofs.Common.{◌≡◌, ◌++◌, string_bytes, drop}
use Rattle.syntax_diagnostic.specs.Diagnostic.{placed_text}
use Rattle.syntax_diagnostic.proofs.diagnostic.add_placed_notes.Given as goal

abbrev pub invariant-loop-note : goal.invariant-loop-note
invariant-loop-note l = string_bytes l.text ++ placed_text l.style l.width (drop l.note-index l.notes) ≡ string_bytes l.fn.text ++ placed_text l.style l.width l.notes
