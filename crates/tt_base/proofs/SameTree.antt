-- Equal trees, and trees for which the test is true.
use Rattle.std.proofs.Common.{◌≡◌, true, ◌↔◌, ap}
use Rattle.tt_base.specs.Equality.{same_token, same_token-equivalence, same_root}
use Rattle.tt_base.specs.Forest.{Root, flat_root}
use Rattle.tt_base.specs.Unflat.{flat_root-injective}
use Rattle.tt_base.proofs.Equality.{same_token_iff}
use Rattle.tt_base.proofs.Pointwise.{pointwise_sound, pointwise_complete}

-- The test is true for two trees exactly if they are equal.
pub same_root_iff : (a b : Root) → (same_root a b ≡ true) ↔ (a ≡ b)
same_root_iff a b = (
  λ e. flat_root-injective a b (pointwise_sound same_token (λ x y. (same_token_iff x y).0) (flat_root a) (flat_root b) e),
  λ e. pointwise_complete same_token same_token-equivalence.refl (flat_root a) (flat_root b) (ap flat_root e),
)
