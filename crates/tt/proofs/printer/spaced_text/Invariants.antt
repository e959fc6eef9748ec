-- The text written so far, and what the levels still have to write, are the whole text.
use Rattle.std.proofs.Common.{◌≡◌, ◌+◌, ◌*◌, ◌++◌, ◌∷◌, false, length, reverse}
use Rattle.std.specs.Prelude.{string_bytes}
use Rattle.tt_base.specs.TreeText.{siblings_text}
use Rattle.tt_view.specs.SpaceRules.{lets_of}
use Rattle.tt_view.specs.Views.{trees_of}
use Rattle.tt.proofs.TextsLeft.{text_left, tokens_left}
use Rattle.tt.proofs.printer.spaced_text.Given as goal

abbrev pub invariant-tokens : goal.invariant-tokens
invariant-tokens l =
    string_bytes l.text ++ text_left (lets_of l.rule) l.due (l.level ∷ reverse l.outer.items) ≡ siblings_text (lets_of l.rule) false (trees_of l.fn.trees)

abbrev pub decreases-tokens : goal.decreases-tokens
decreases-tokens l = 2 * tokens_left (l.level ∷ reverse l.outer.items) + length l.outer.items
