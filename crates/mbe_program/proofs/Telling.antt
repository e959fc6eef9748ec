-- The notes of hops tell them apart.
use Rattle.std.proofs.Common.{◌≡◌, inl, inr, ℕ, zero, suc, List, [], ◌∷◌, ◌++◌, length, refl, ap, ap₂, sym, subst, ◌∙◌, arith}
use Rattle.std.specs.Prelude.{◌⊎◌}
use Rattle.mbe_matcher.specs.Marks.{Note, begun, ended}
use Rattle.tt.specs.Forest.{Forest}
use Rattle.mbe_program.specs.Program.{Instruction, take, pass, enter, leave, begin, close, place_at}
use Rattle.mbe_program.specs.Runs.{Goes, IsOver}
use Rattle.mbe_program.specs.declared.cell.Cell.{Cell}
use Rattle.mbe_program.specs.Cells.{IsCell, HopsFrom, Hop}
use Rattle.mbe_program.specs.Tables.{Table}

-- Two cells at the same position with as many instructions left are the same.
same_cell : (one other : Cell) (position left : ℕ) → IsCell one position left → IsCell other position left → one ≡ other
same_cell one other position left is was =
    ap₂ (λ (position left : ℕ). let it : Cell = record { position = position; left = left } in it) (is.0 ∙ sym was.0) (is.1 ∙ sym was.1)

either_number : (a b : ℕ) → (a ≡ b) ⊎ (a ≡ b → ⊥)
either_number zero zero = inl refl
either_number zero (suc b) = inr (λ same. omega (arith, same))
either_number (suc a) zero = inr (λ same. omega (arith, same))
either_number (suc a) (suc b) = elim (either_number a b) [ inl same ↦ inl (ap suc same) | inr differ ↦ inr (λ same. differ (omega (arith, same))) ]

-- Two cells are the same or not.
pub decide : (a b : Cell) → (a ≡ b) ⊎ (a ≡ b → ⊥)
decide a b =
    elim (either_number a.position b.position) [
      | inl position ↦ elim (either_number a.left b.left) [
        | inl left ↦ inl (same_cell a b b.position b.left (position, left) (refl, refl))
        | inr differ ↦ inr (λ same. differ (ap (λ (it : Cell). it.left) same))
      ]
      | inr differ ↦ inr (λ same. differ (ap (λ (it : Cell). it.position) same))
    ]

apart : (n m : ℕ) (more rest : List Note) → begun n ∷ more ≡ ended m ∷ rest → ⊥
apart n m more rest same = cc same

both_apart : (n m : ℕ) (its those more rest : List Note) → its ≡ begun n ∷ [] → those ≡ ended m ∷ [] → its ++ more ≡ those ++ rest → ⊥
both_apart n m its those more rest is was same = apart n m more rest (ap (λ l. l ++ more) (sym is) ∙ same ∙ ap (λ l. l ++ rest) was)

module _ (program : List Instruction) (table : Table) where
  tells_from : (place : List Instruction) (n : ℕ) (one other : Cell) (its those more rest : List Note) → HopsFrom program table place n one its → HopsFrom program table place n other those
      → its ++ more ≡ those ++ rest → (one ≡ other) × (its ≡ those)
  tells_from [] n one other its those more rest hop hopped same = absurd hop
  tells_from (take which ∷ after) n one other its those more rest (some, takes_it, at, noted) (some_too, takes_too, was_at, noted_too) same =
      (same_cell one other _ _ at was_at, noted ∙ sym noted_too)
  tells_from (pass leaves ∷ after) n one other its those more rest (like, at, noted) (like_too, was_at, noted_too) same = (same_cell one other _ _ at was_at, noted ∙ sym noted_too)
  tells_from (enter kind ∷ after) n one other its those more rest (node_is, at, noted) (node_too, was_at, noted_too) same = (same_cell one other _ _ at was_at, noted ∙ sym noted_too)
  tells_from (leave ∷ after) n one other its those more rest (some, at_end, at, noted) (some_too, end_too, was_at, noted_too) same = (same_cell one other _ _ at was_at, noted ∙ sym noted_too)
  tells_from (begin op first behind ∷ after) n one other its those more rest (inl (at, noted)) (inl (was_at, noted_too)) same = (same_cell one other _ _ at was_at, noted ∙ sym noted_too)
  tells_from (begin op first behind ∷ after) n one other its those more rest (inl (at, noted)) (inr (may, was_at, noted_too)) same = absurd (both_apart behind behind its those more rest noted noted_too same)
  tells_from (begin op first behind ∷ after) n one other its those more rest (inr (may, at, noted)) (inl (was_at, noted_too)) same = absurd (both_apart behind behind those its rest more noted_too noted (sym same))
  tells_from (begin op first behind ∷ after) n one other its those more rest (inr (may, at, noted)) (inr (may_too, was_at, noted_too)) same = (same_cell one other _ _ at was_at, noted ∙ sym noted_too)
  tells_from (close op again ∷ after) n one other its those more rest (inl (may, at, noted)) (inl (may_too, was_at, noted_too)) same = (same_cell one other _ _ at was_at, noted ∙ sym noted_too)
  tells_from (close op again ∷ after) n one other its those more rest (inl (may, at, noted)) (inr (was_at, noted_too)) same = absurd (both_apart (length after) (length after) its those more rest noted noted_too same)
  tells_from (close op again ∷ after) n one other its those more rest (inr (at, noted)) (inl (may, was_at, noted_too)) same = absurd (both_apart (length after) (length after) those its rest more noted_too noted (sym same))
  tells_from (close op again ∷ after) n one other its those more rest (inr (at, noted)) (inr (was_at, noted_too)) same = (same_cell one other _ _ at was_at, noted ∙ sym noted_too)

  -- From a cell, hops with the same notes lead to the same cell.
  pub tells : (from one other : Cell) (its those more rest : List Note) → Hop program table from one its → Hop program table from other those → its ++ more ≡ those ++ rest
      → (one ≡ other) × (its ≡ those)
  tells from = tells_from (place_at program from.left) from.position

-- Notes after the same note are the same.
behind_note : (one other : Note) (left right : List Note) → one ∷ left ≡ other ∷ right → left ≡ right
behind_note one other left right same = cc same

module _ (program : List Instruction) where
  -- Runs with the same notes have as many steps.
  pub same_count : (n m : ℕ) (place : List Instruction) (levels : List Forest) (notes : List Note) → Goes program IsOver n place levels notes → Goes program IsOver m place levels notes → n ≡ m
  same_count zero zero place levels notes goes went = refl
  same_count zero (suc m) place levels notes goes went = absurd (subst (λ place. Goes program IsOver (suc m) place levels notes) goes.0.0 went)
  same_count (suc n) zero place levels notes goes went = absurd (subst (λ place. Goes program IsOver (suc n) place levels notes) went.0.0 goes)
  same_count (suc n) (suc m) [] levels notes goes went = absurd goes
  same_count (suc n) (suc m) (take which ∷ rest) levels notes (takes_it, (more, same, goes)) (takes_too, (others, also, went)) =
      ap suc (same_count n m rest _ more goes (subst (Goes program IsOver m rest _) (sym (behind_note _ _ more others (sym same ∙ also))) went))
  same_count (suc n) (suc m) (pass leaves ∷ rest) levels notes (like, goes) (like_too, went) = ap suc (same_count n m rest _ notes goes went)
  same_count (suc n) (suc m) (enter kind ∷ rest) levels notes (node_is, goes) (node_too, went) = ap suc (same_count n m rest _ notes goes went)
  same_count (suc n) (suc m) (leave ∷ rest) levels notes (at_end, goes) (end_too, went) = ap suc (same_count n m rest _ notes goes went)
  same_count (suc n) (suc m) (begin op first behind ∷ rest) levels notes (inl (more, same, goes)) (inl (others, also, went)) =
      ap suc (same_count n m (place_at program first) levels more goes (subst (Goes program IsOver m (place_at program first) levels) (sym (behind_note (begun behind) (begun behind) more others (sym same ∙ also))) went))
  same_count (suc n) (suc m) (begin op first behind ∷ rest) levels notes (inl (more, same, goes)) (inr (may, (others, also, went))) = absurd (apart behind behind more others (sym same ∙ also))
  same_count (suc n) (suc m) (begin op first behind ∷ rest) levels notes (inr (may, (more, same, goes))) (inl (others, also, went)) = absurd (apart behind behind others more (sym also ∙ same))
  same_count (suc n) (suc m) (begin op first behind ∷ rest) levels notes (inr (may, (more, same, goes))) (inr (may_too, (others, also, went))) =
      ap suc (same_count n m (place_at program behind) levels more goes (subst (Goes program IsOver m (place_at program behind) levels) (sym (behind_note (ended behind) (ended behind) more others (sym same ∙ also))) went))
  same_count (suc n) (suc m) (close op again ∷ rest) levels notes (inl (may, (more, same, goes))) (inl (may_too, (others, also, went))) =
      ap suc (same_count n m (place_at program again) levels more goes (subst (Goes program IsOver m (place_at program again) levels) (sym (behind_note (begun (length rest)) (begun (length rest)) more others (sym same ∙ also))) went))
  same_count (suc n) (suc m) (close op again ∷ rest) levels notes (inl (may, (more, same, goes))) (inr (others, also, went)) = absurd (apart (length rest) (length rest) more others (sym same ∙ also))
  same_count (suc n) (suc m) (close op again ∷ rest) levels notes (inr (more, same, goes)) (inl (may, (others, also, went))) = absurd (apart (length rest) (length rest) others more (sym also ∙ same))
  same_count (suc n) (suc m) (close op again ∷ rest) levels notes (inr (more, same, goes)) (inr (others, also, went)) =
      ap suc (same_count n m rest levels more goes (subst (Goes program IsOver m rest levels) (sym (behind_note (ended (length rest)) (ended (length rest)) more others (sym same ∙ also))) went))
