-- The mark, byte by byte.
use Rattle.std.proofs.Common.{◌≡◌, ◌≢◌, ℕ, zero, suc, ◌+◌, ◌<◌, if◌then◌else◌, List, [], ◌∷◌, drop, Err, refl, ap, ap₂, ◌∙◌, arith, inl, inr}
use Rattle.std.proofs.lemmas.Bool.Decides.{eqb_tells}
use Rattle.std.specs.Prelude.{slice_index}
use Rattle.tt_bytes.specs.declared.fault.BytesFault.TheVariants.{TooShort, OtherFormat}
use Rattle.tt_bytes.specs.Format.{mark}
use Rattle.tt_bytes.specs.Front.{behind_mark}

-- The rest of the mark begins with its next byte.
ahead : (at : ℕ) → at < 4 → drop at mark ≡ slice_index mark at ∷ drop (at + 1) mark
ahead zero small = refl
ahead (suc zero) small = refl
ahead (suc (suc zero)) small = refl
ahead (suc (suc (suc zero))) small = refl
ahead (suc (suc (suc (suc at)))) small = absurd (omega (arith, small))

-- No byte is left.
pub mark_missing : (at : ℕ) (rest : List ℕ) → at < 4 → rest ≡ [] → behind_mark at (drop at mark) rest ≡ Err (TooShort at)
mark_missing at rest small none = ap₂ (λ m r. behind_mark at m r) (ahead at small) none

-- The next byte is not that of the mark.
pub mark_differs : (at byte : ℕ) (rest behind : List ℕ) → at < 4 → rest ≡ byte ∷ behind → byte ≢ slice_index mark at
    → behind_mark at (drop at mark) rest ≡ Err (OtherFormat at)
mark_differs at byte rest behind small is other =
    ap₂ (λ m r. behind_mark at m r) (ahead at small) is
    ∙ elim (eqb_tells byte (slice_index mark at)) [
      | inl same ↦ absurd (other same.1)
      | inr apart ↦ ap (λ b. if b then behind_mark (at + 1) (drop (at + 1) mark) behind else Err (OtherFormat at)) apart.0
    ]

-- The next byte is that of the mark.
pub mark_goes_on : (at byte : ℕ) (rest behind : List ℕ) → at < 4 → rest ≡ byte ∷ behind → byte ≡ slice_index mark at
    → behind_mark at (drop at mark) rest ≡ behind_mark (at + 1) (drop (at + 1) mark) behind
mark_goes_on at byte rest behind small is same =
    ap₂ (λ m r. behind_mark at m r) (ahead at small) is
    ∙ elim (eqb_tells byte (slice_index mark at)) [
      | inl alike ↦ ap (λ b. if b then behind_mark (at + 1) (drop (at + 1) mark) behind else Err (OtherFormat at)) alike.0
      | inr apart ↦ absurd (apart.1 same)
    ]
