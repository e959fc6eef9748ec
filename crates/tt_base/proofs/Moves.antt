-- Trees read token by token.
use Rattle.std.proofs.Common.{◌≡◌, ◌+◌, ◌-◌, ◌^◌, ℕ, suc, min, Some, refl, arith}
use Rattle.tt_base.specs.declared.token_tree.TokenTree.{TokenTree}
use Rattle.tt_base.specs.Forest.{Forest, end, leaf, node, size}
use Rattle.tt_base.specs.Moves.{first_token, after_token, step_after}
use Rattle.tt_base.proofs.Joins.{size-join}

-- A token that is there counts as one step.
pub one_step : (steps : ℕ) (trees : Forest) (it : TokenTree) → first_token trees ≡ Some it → step_after steps trees ≡ min (steps + 1) (2 ^ 64 - 1)
one_step steps end it e = cc
one_step steps (leaf first rest) it e = refl
one_step steps (node delimiter children rest) it e = refl

-- After a token that is there, one token less is left.
pub one_less : (trees : Forest) (it : TokenTree) → first_token trees ≡ Some it → size trees ≡ suc (size (after_token trees))
one_less end it e = cc
one_less (leaf first rest) it e = refl
one_less (node delimiter children rest) it e = omega (arith, size-join children rest)
