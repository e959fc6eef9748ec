use Rattle.std.proofs.Common.{◌≡◌, ◌++◌, drop}
use Rattle.std.specs.Prelude.{string_bytes}
use Rattle.tt.specs.Stored.{packed}
use Rattle.app_console.specs.ViewText.{listed, part_text}
use Rattle.app_console.proofs.stored_lines.part_lines.Given as goal

abbrev pub invariant-loop-part : goal.invariant-loop-part
invariant-loop-part l = string_bytes l.text ++ listed part_text (drop l.part-index (packed l.tree).parts) ≡ listed part_text (packed l.tree).parts
