-- How many tokens the levels of a walk still yield, the innermost level first.
use Rattle.std.proofs.Common.{ℕ, ◌+◌, List, [], ◌∷◌}
use Rattle.tt_base.specs.Forest.{size}
use Rattle.tt_view.specs.Iters.{rest_of}
use Rattle.tt_view.specs.declared.iter.TtIter.{TtIter}

-- the tokens of each level
abbrev pub tokens_in : List TtIter → ℕ
tokens_in [] = 0
tokens_in (level ∷ outer) = size (rest_of level) + tokens_in outer
