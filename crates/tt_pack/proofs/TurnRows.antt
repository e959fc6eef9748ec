-- Places that are out of order, row by row.
use Rattle.std.proofs.Common.{◌≡◌, ℕ, zero, suc, Some, [], ◌∷◌, slice_get, refl, sym}
use Rattle.tt_pack.specs.Places.{HasOutOfTurn}

-- The place 2 is at the index of 1.
two_is_early : HasOutOfTurn (0 ∷ 2 ∷ [])
two_is_early = record { index = 1; place = 2; at = refl; other = λ e. cc e }

-- The place 0 comes a second time.
none_comes_twice : HasOutOfTurn (0 ∷ 1 ∷ 0 ∷ [])
none_comes_twice = record { index = 2; place = 0; at = refl; other = λ e. cc e }

-- From 0 on each place is at its index.
in_turn : HasOutOfTurn (0 ∷ 1 ∷ []) → ⊥
in_turn early = early.other (each early.index early.place early.at)
  where
    each : (index place : ℕ) → slice_get (0 ∷ 1 ∷ []) index ≡ Some place → place ≡ index
    each zero place at = sym (cc at)
    each (suc zero) place at = sym (cc at)
    each (suc (suc index)) place at = absurd (cc at)

-- No place is in the empty list.
none_stands : HasOutOfTurn [] → ⊥
none_stands early = absurd (cc early.at)
