-- How many trees a fragment of Rust's grammar takes, with what its subtrees contain, as a function.
use Rattle.std.specs.Prelude.{ℕ, Bool, Option}
use Rattle.tt.specs.Forest.{Forest}
use Rattle.mbe_grammar.proofs.FragmentAnswers.{has_deep_answer, has_block_answer}
use Rattle.mbe_pattern.specs.declared.pattern.GrammarFragment.{GrammarFragment}

-- how many of these trees the fragment takes from the first on, if it takes any, and each subtree that it takes by a name contains that
-- name: the grammar's one answer
unfoldable pub grammar_reach : GrammarFragment → Forest → Option ℕ
grammar_reach which trees = (has_deep_answer which trees).0

-- these trees are the contents of a block
unfoldable pub is_block : Forest → Bool
is_block trees = (has_block_answer trees).0
