-- The lines written so far, and what the levels still have to write, are all lines.
use Rattle.std.proofs.Common.{◌≡◌, ◌+◌, ◌*◌, ◌++◌, ◌∷◌, false, length, reverse}
use Rattle.std.specs.Prelude.{string_bytes}
use Rattle.tt_base.specs.DebugText.{lines_text}
use Rattle.tt_view.specs.Views.{trees_of}
use Rattle.tt.proofs.TextsLeft.{lines_left, tokens_in}
use Rattle.tt.proofs.printer.token_lines.Given as goal

abbrev pub invariant-tokens : goal.invariant-tokens
invariant-tokens l = string_bytes l.text ++ lines_left l.due (l.level ∷ reverse l.outer.items) ≡ lines_text false 0 (trees_of l.fn.trees)

abbrev pub decreases-tokens : goal.decreases-tokens
decreases-tokens l = 2 * tokens_in (l.level ∷ reverse l.outer.items) + length l.outer.items
