-- A fragment takes one number of trees.
use Rattle.std.proofs.Common.{◌≡◌, ℕ, refl, ap, ◌∙◌}
use Rattle.tt.specs.Forest.{Forest}
use Rattle.expand_items.specs.Parts.{or_zero, Takes}
use Rattle.mbe_grammar.proofs.FragmentAnswers.{has_answer, one_answer}
use Rattle.mbe_pattern.specs.declared.pattern.GrammarFragment.{GrammarFragment}

-- that number: the grammar's one answer
unfoldable pub taken_size : GrammarFragment → Forest → ℕ
taken_size which trees = or_zero (has_answer which trees).0

pub takes_size : (which : GrammarFragment) (trees : Forest) → Takes which trees (taken_size which trees)
unfolding taken_size
takes_size which trees = ((has_answer which trees).0, (has_answer which trees).1, refl)

pub taken_is : (which : GrammarFragment) (trees : Forest) (taken : ℕ) → Takes which trees taken → taken ≡ taken_size which trees
unfolding taken_size
taken_is which trees taken (count, reaches, is) = is ∙ ap or_zero (one_answer which trees count (has_answer which trees).0 reaches (has_answer which trees).1)
