-- A tree is within the limits exactly if its list has none of the faults for them.
use Rattle.std.proofs.Common.{◌≡◌, ℕ, ◌<◌, ◌≤◌, ◌↔◌, Bool, true, false, nat_lt, refl, subst, arith}
use Rattle.std.proofs.lemmas.Bool.{ltb-true, ltb-false}
use Rattle.tt_base.specs.declared.fault.TtFault.TheVariants.{TooManySpanParts, TooManySymbols, TooManyBytes}
use Rattle.tt_base.specs.Forest.{Root, size, flat_root}
use Rattle.tt_base.specs.Unflat.{flat_root-injective}
use Rattle.tt_tables.specs.Stored.{most_tokens, IsWithinLimits}
use Rattle.tt_tables.specs.PackFault.{IsPackFault}

at_most : (n most : ℕ) → (most < n → ⊥) → n ≤ most
at_most n most none = by_test (nat_lt most n) refl
  where
    by_test : (t : Bool) → nat_lt most n ≡ t → n ≤ most
    by_test true e = absurd (none (ltb-true most n e))
    by_test false e = omega (arith, ltb-false most n e)

-- the tree's list does not have too many span parts, symbols or bytes
abbrev pub HasNoLimitFault : Root → Type 0
HasNoLimitFault root =
    (IsPackFault (flat_root root) TooManySpanParts → ⊥) × (IsPackFault (flat_root root) TooManySymbols → ⊥)
    × (IsPackFault (flat_root root) TooManyBytes → ⊥)

-- A tree whose tokens a header can count is within the limits exactly if its list has none of these faults.
pub within_limits_iff : (root : Root) → size root.children ≤ most_tokens → IsWithinLimits root ↔ HasNoLimitFault root
within_limits_iff root few = (has_none, within)
  where
    limits_of : IsWithinLimits root → (other : Root) → flat_root root ≡ flat_root other → IsWithinLimits other
    limits_of limits other e = subst IsWithinLimits (flat_root-injective root other e) limits

    has_none : IsWithinLimits root → HasNoLimitFault root
    has_none limits = (
      λ (other, e, _, over). omega (arith, over, (limits_of limits other e).parts),
      λ (other, e, _, over). omega (arith, over.1, (limits_of limits other e).symbols),
      λ (other, e, _, over). omega (arith, over.2, (limits_of limits other e).bytes),
    )

    within : HasNoLimitFault root → IsWithinLimits root
    within none =
        let parts = at_most _ _ (λ over. none.0 (root, refl, few, over)) in
        let symbols = at_most _ _ (λ over. none.1 (root, refl, few, (parts, over))) in
        record { tokens = few; parts = parts; symbols = symbols; bytes = at_most _ _ (λ over. none.2 (root, refl, few, (parts, symbols, over))) }
