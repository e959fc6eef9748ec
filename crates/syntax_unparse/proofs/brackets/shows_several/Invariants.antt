-- The trees found so far, and those that the levels still show, are all trees that show.
use Rattle.std.proofs.Common.{◌≡◌, ◌+◌, ◌*◌, ◌∷◌, length, reverse}
use Rattle.tt_view.specs.Iters.{rest_of}
use Rattle.syntax_unparse.specs.Marks.{shown}
use Rattle.syntax_unparse.proofs.ShownLeft.{one_if, shown_left, tokens_in}
use Rattle.syntax_unparse.proofs.brackets.shows_several.Given as goal

abbrev pub invariant-trees : goal.invariant-trees
invariant-trees l = one_if l.found + shown_left (l.level ∷ reverse l.outer.items) ≡ shown (rest_of l.fn.trees)

abbrev pub decreases-trees : goal.decreases-trees
decreases-trees l = 2 * tokens_in (l.level ∷ reverse l.outer.items) + length l.outer.items
