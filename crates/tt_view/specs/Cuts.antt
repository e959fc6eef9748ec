-- The first part of the trees ahead, and a list of one node: what a view keeps beside its numbers.
use Rattle.std.specs.Prelude.{◌≡◌, ℕ}
use Rattle.std.specs.Coded.{Coded-set, ×_prop}
use Rattle.std.proofs.Common.{sym, ◌∙◌, arith}
use mathlib.Core.HLevel.{Σ_prop_path}
use native.Mathlib.Nat.{ℕ_set}
use Rattle.tt_base.specs.Forest.{Forest, Root, size, join, only}
use Rattle.tt_base.specs.Unflat.{forest_code}
use Rattle.tt_base.proofs.Joins.{join-unique, only-injective}

-- the trees ahead are the first list, of `len` tokens, and then the second
abbrev pub IsCutAt : (ahead : Forest) → (len : ℕ) → Forest × Forest → Type 0
IsCutAt ahead len p = (ahead ≡ join p.0 p.1) × (size p.0 ≡ len)

-- the first `len` tokens ahead are whole trees
abbrev pub HoldsTrees : (ahead : Forest) → (len : ℕ) → Type 0
HoldsTrees ahead len = (p : Forest × Forest) × IsCutAt ahead len p

-- the trees are one node
abbrev pub HoldsRoot : Forest → Type 0
HoldsRoot trees = (root : Root) × (trees ≡ only root)

-- There is only one such cut, so it is a proposition, as a ghost field must be.
pub HoldsTrees-prop : (ahead : Forest) (len : ℕ) → IsProp (HoldsTrees ahead len)
HoldsTrees-prop ahead len a b =
    let both = join-unique a.0.0 b.0.0 a.0.1 b.0.1 (omega (arith, a.1.1, b.1.1)) (sym a.1.0 ∙ b.1.0) in
    let same : (a.0.0, a.0.1) ≡ (b.0.0, b.0.1) = λ i. (both.0 i, both.1 i) in
    Σ_prop_path (λ p. ×_prop (Coded-set forest_code ahead (join p.0 p.1)) (ℕ_set (size p.0) len)) same

-- There is only one such root.
pub HoldsRoot-prop : (trees : Forest) → IsProp (HoldsRoot trees)
HoldsRoot-prop trees a b =
    Σ_prop_path (λ root. Coded-set forest_code trees (only root)) (only-injective a.0 b.0 (sym a.1 ∙ b.1))
