-- The written text, and the marks that the levels have left, make the whole text.
use Rattle.std.proofs.Common.{◌≡◌, ◌+◌, ◌*◌, ◌∷◌, length, reverse}
use Rattle.std.specs.Prelude.{string_bytes}
use Rattle.tt_view.specs.Views.{trees_of}
use Rattle.syntax_unparse.proofs.MarksLeft.{marks_left, tokens_left}
use Rattle.syntax_unparse.proofs.WriteFacts.{IsWrittenTo}
use Rattle.syntax_unparse.proofs.write.rust_text.Given as goal

abbrev pub invariant-tokens : goal.invariant-tokens
invariant-tokens l =
    IsWrittenTo (trees_of l.fn.trees) (string_bytes l.text) l.last (marks_left l.at (l.level ∷ reverse l.outer.items))
    × (l.at + tokens_left (l.level ∷ reverse l.outer.items) ≡ l.tokens)

abbrev pub decreases-tokens : goal.decreases-tokens
decreases-tokens l = 2 * tokens_left (l.level ∷ reverse l.outer.items) + length l.outer.items
