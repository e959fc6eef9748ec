-- When all arrivals have gone on: the log has each way to each cell.
use Rattle.std.proofs.Common.{◌≡◌, inl, inr, ℕ, zero, suc, List, [], ◌++◌, refl, ap, sym, subst, ◌∙◌}
use Rattle.std.specs.Prelude.{◌⊎◌}
use Rattle.mbe_program.specs.Ways.{Coming, IsAt, Traces, Comes, AreTwo, IsKept}
use Rattle.mbe_program.specs.declared.search.Way.{Way}
use Rattle.mbe_program.specs.declared.search.Way.TheVariants.{Unseen as unseen, Once as once, Often as often}
use Rattle.mbe_program.proofs.Arriving.{Log}

module _ (Cell Note : Type 0) (start : Cell) (Hop : Cell → Cell → List Note → Type 0)
    (tells : (from one other : Cell) (its those more rest : List Note) → Hop from one its → Hop from other those → its ++ more ≡ those ++ rest → (one ≡ other) × (its ≡ those))
    (decide : (a b : Cell) → (a ≡ b) ⊎ (a ≡ b → ⊥))
    (ways : Cell → Way) (log : Log Cell Note start Hop tells decide) (Done : ℕ → Cell → List Note → Type 0) (kept : IsKept Cell Note start Hop ways log Done)
    (begins : Done 0 start []) (goes : (j : ℕ) (from : Coming Cell Note) (to : Cell) (its : List Note) → IsAt Cell Note log j from → Hop from.cell to its → Done (suc j) to its) where
  either_way : (to : Cell) → (ways to ≡ unseen) ⊎ ((ways to ≡ once) ⊎ (ways to ≡ often))
  either_way to = by (ways to) refl
    where
      by : (way : Way) → ways to ≡ way → (ways to ≡ unseen) ⊎ ((ways to ≡ once) ⊎ (ways to ≡ often))
      by unseen same = inl same
      by once same = inr (inl same)
      by often same = inr (inr same)

  -- No cell to which a way leads is unseen,
  pub seen : (n : ℕ) (to : Cell) (notes : List Note) → Comes Cell Note start Hop n to notes → ways to ≡ unseen → ⊥
  seen zero to notes (at_start, none) way = (kept.not_yet to way).0 0 [] (subst (λ cell. Done 0 cell []) (sym at_start) begins)
  seen (suc n) to notes (from, before, its, comes, hop, same) way =
      elim (either_way from) [
        | inl not_seen ↦ seen n from before comes not_seen
        | inr (inl single) ↦
            let known = kept.only from single in
            gone known.0 known.1 known.2 known.3
        | inr (inr double) ↦
            let known = kept.many from double in
            gone known.0 known.1 known.2 known.3
      ]
    where
      gone : (k : ℕ) (it : Coming Cell Note) → IsAt Cell Note log k it → it.cell ≡ from → ⊥
      gone k it there cell = (kept.not_yet to way).0 (suc k) its (goes k it to its there (subst (λ cell. Hop cell to its) (sym cell) hop))

  -- it is in the log,
  pub reached : (n : ℕ) (to : Cell) (notes : List Note) → Comes Cell Note start Hop n to notes → (k : ℕ) × (it : Coming Cell Note) × IsAt Cell Note log k it × (it.cell ≡ to)
  reached n to notes comes =
      elim (either_way to) [
        | inl not_seen ↦ absurd (seen n to notes comes not_seen)
        | inr (inl single) ↦ let known = kept.only to single in (known.0, known.1, known.2, known.3)
        | inr (inr double) ↦ let known = kept.many to double in (known.0, known.1, known.2, known.3)
      ]

  -- and if only one way is known to a cell, each way there is the trace of its one arrival.
  pub one_way : (n : ℕ) (to : Cell) (notes : List Note) → Comes Cell Note start Hop n to notes → (way : ways to ≡ once) → Traces Cell Note log (suc n) (suc (kept.only to way).0) notes
  one_way zero to notes (at_start, none) way =
      let known = kept.only to way in
      let first = known.5 0 [] (subst (λ cell. Done 0 cell []) (sym at_start) begins) in
      (known.0, known.1, [], refl, known.2, (sym first.0, refl), none ∙ first.1)
  one_way (suc n) to notes (from, before, its, comes, hop, same) way =
      elim (either_way from) [
        | inl not_seen ↦ absurd (seen n from before comes not_seen)
        | inr (inl single) ↦
            let source = kept.only from single in
            let traces = one_way n from before comes single in
            let known = kept.only to way in
            let last = known.5 (suc source.0) its (goes source.0 source.1 to its source.2 (subst (λ cell. Hop cell to its) (sym source.3) hop)) in
            (known.0, known.1, before, refl, known.2, subst (λ number. Traces Cell Note log (suc n) number before) last.0 traces, same ∙ ap (λ l. before ++ l) last.1)
        | inr (inr double) ↦
            let source = kept.many from double in
            let twice = kept.onward source.0 source.1 to its (goes source.0 source.1 to its source.2 (subst (λ cell. Hop cell to its) (sym source.3) hop)) source.2 source.4 in
            absurd (apart (sym way ∙ twice))
      ]
    where
      apart : once ≡ often → ⊥
      apart same = cc same

  -- If two ways are known, there are two.
  pub two_ways : (to : Cell) → ways to ≡ often → AreTwo Cell Note start Hop to
  two_ways to way =
      let known = kept.many to way in
      subst (AreTwo Cell Note start Hop) known.3 (kept.two known.0 known.1 known.2 known.4)
