-- New ids put one after another, and values that come twice.
use Rattle.std.proofs.Common.{◌≡◌, ℕ, zero, suc, ◌+◌, ◌<◌, Bool, true, false, ◌||◌, List, [], ◌∷◌, length, take, set, get_or, refl, ap, sym, ◌∙◌, arith}
use Rattle.std.proofs.lemmas.Bool.{true≢false}
use Rattle.std.specs.List.{IsDistinct, list_any}
use Rattle.tt_base.specs.declared.span.ErasedFileAstId.{ErasedFileAstId}
use Rattle.tt_base.specs.declared.span.SpanPart.{SpanPart}
use Rattle.tt_tables.specs.AstIds.{part_with_id, parts_with_ids}
use Rattle.tt_pack.proofs.Sorted.{all_at}

-- Without ids all parts stay.
pub no_ids : (parts : List SpanPart) → parts_with_ids [] parts ≡ parts
no_ids [] = refl
no_ids (part ∷ parts) = refl

-- The next id at the next part.
pub put_next : (ids : List ErasedFileAstId) (parts : List SpanPart) (i : ℕ) (id : ErasedFileAstId) (part : SpanPart) → i < length ids → i < length parts
    → set (parts_with_ids (take i ids) parts) i (part_with_id (get_or ids i id) (get_or (parts_with_ids (take i ids) parts) i part)) ≡ parts_with_ids (take (i + 1) ids) parts
put_next [] parts i id part h k = absurd (omega (arith, h))
put_next (first ∷ ids) [] i id part h k = absurd (omega (arith, k))
put_next (first ∷ ids) (entry ∷ parts) zero id part h k = ap (λ l. part_with_id first entry ∷ l) (sym (no_ids parts))
put_next (first ∷ ids) (entry ∷ parts) (suc i) id part h k =
    ap (λ l. part_with_id first entry ∷ l) (put_next ids parts i id part (omega (arith, h)) (omega (arith, k)))
    ∙ ap (λ n. parts_with_ids (take n (first ∷ ids)) (entry ∷ parts)) further
  where
    further : suc (i + 1) ≡ suc i + 1
    further = omega arith

-- The part at an index with the id at that index.
pub part_at : (ids : List ErasedFileAstId) (parts : List SpanPart) (i : ℕ) (id : ErasedFileAstId) (part other : SpanPart) → i < length ids → i < length parts
    → get_or (parts_with_ids ids parts) i other ≡ part_with_id (get_or ids i id) (get_or parts i part)
part_at [] parts i id part other h k = absurd (omega (arith, h))
part_at (first ∷ ids) [] i id part other h k = absurd (omega (arith, k))
part_at (first ∷ ids) (entry ∷ parts) zero id part other h k = refl
part_at (first ∷ ids) (entry ∷ parts) (suc i) id part other h k = part_at ids parts i id part other (omega (arith, h)) (omega (arith, k))

-- `same` is whether two values are equal
module _ {X : Type 0} (same : X → X → Bool) (sound : (x y : X) → same x y ≡ true → x ≡ y) (complete : (x : X) → same x x ≡ true) where
  -- A value that comes before itself comes twice.
  pub stands_twice : (xs : List X) (i : ℕ) (d : X) → i < length xs → list_any (same (get_or xs i d)) (take i xs) ≡ true → IsDistinct same xs → ⊥
  unfolding IsDistinct
  stands_twice [] i d h found once = omega (arith, h)
  stands_twice (x ∷ xs) zero d h found once = true≢false (sym found)
  stands_twice (x ∷ xs) (suc i) d h found once =
      by_test (same (get_or xs i d) x) refl found (λ there. stands_twice xs i d (omega (arith, h)) there once.1)
    where
      by_test : (t : Bool) → same (get_or xs i d) x ≡ t → (t || list_any (same (get_or xs i d)) (take i xs)) ≡ true
          → (list_any (same (get_or xs i d)) (take i xs) ≡ true → ⊥) → ⊥
      by_test true e there later =
          true≢false
          (sym (complete x) ∙ ap (same x) (sym (sound (get_or xs i d) x e)) ∙ all_at (λ y. same x y ≡ false) xs once.0 i d (omega (arith, h)))
      by_test false e there later = later there
