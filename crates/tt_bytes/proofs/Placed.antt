-- The places of symbols among the used ones.
use Rattle.std.proofs.Common.{◌≡◌, ℕ, zero, suc, ◌<◌, ◌≤◌, ◌⊎◌, inl, inr, Bool, true, false, ◌||◌, bytes_eq, List, [], ◌∷◌, ◌++◌, Some, length, set, slice_get, refl, ap, sym, ◌∙◌, arith}
use Rattle.std.specs.List.{IsDistinct, list_any}
use Rattle.tt_base.specs.contracts.symbol.SymbolEq.TheImpl.Laws as symbol_eq
use Rattle.tt_bytes.specs.Uses.{no_place, ArePlaced}
use Rattle.tt_bytes.proofs.Counting.{apart_at}
use Rattle.tt_tables.proofs.PlacesKept.{keeps_front}
use Rattle.tt_tables.proofs.TokenTables.{text_sound}

-- The item after a list.
pub stands_last : {X : Type 0} (xs : List X) (x : X) (n : ℕ) → n ≡ length xs → slice_get (xs ++ x ∷ []) n ≡ Some x
stands_last {X} xs x n e = ap (slice_get (xs ++ x ∷ [])) e ∙ last xs
  where
    last : (ys : List X) → slice_get (ys ++ x ∷ []) (length ys) ≡ Some x
    last [] = refl
    last (y ∷ ys) = last ys

-- An item that is set is at its place.
set_there : {X : Type 0} (xs : List X) (i : ℕ) (x y z : X) → slice_get xs i ≡ Some y → slice_get (set xs i x) i ≡ Some z → x ≡ z
set_there [] i x y z at is = absurd (cc at)
set_there (w ∷ xs) zero x y z at is = cc is
set_there (w ∷ xs) (suc i) x y z at is = set_there xs i x y z at is

-- All other items stay.
set_elsewhere : {X : Type 0} (xs : List X) (i j : ℕ) (x : X) → (j ≡ i → ⊥) → slice_get (set xs i x) j ≡ slice_get xs j
set_elsewhere [] i j x other = refl
set_elsewhere (w ∷ xs) zero zero x other = absurd (other refl)
set_elsewhere (w ∷ xs) zero (suc j) x other = refl
set_elsewhere (w ∷ xs) (suc i) zero x other = refl
set_elsewhere (w ∷ xs) (suc i) (suc j) x other = set_elsewhere xs i j x (λ e. other (ap suc e))

-- Two numbers are equal or not.
equal_or : (i j : ℕ) → (i ≡ j) ⊎ (i ≡ j → ⊥)
equal_or zero zero = inl refl
equal_or zero (suc j) = inr (λ e. omega (arith, e))
equal_or (suc i) zero = inr (λ e. omega (arith, e))
equal_or (suc i) (suc j) = next (equal_or i j)
  where
    next : (i ≡ j) ⊎ (i ≡ j → ⊥) → (suc i ≡ suc j) ⊎ (suc i ≡ suc j → ⊥)
    next (inl e) = inl (ap suc e)
    next (inr other) = inr (λ e. other (omega (arith, e)))

-- One more value that does not equal the text either.
none_more : (text other : List ℕ) (order : List (List ℕ)) → list_any (bytes_eq text) order ≡ false → bytes_eq text other ≡ false → list_any (bytes_eq text) (order ++ other ∷ []) ≡ false
none_more text other [] none apart = ap (λ t. t || false) apart
none_more text other (first ∷ order) none apart = by_test (bytes_eq text first) none (λ absent. none_more text other order absent apart)
  where
    by_test : (t : Bool) → (t || list_any (bytes_eq text) order) ≡ false → (list_any (bytes_eq text) order ≡ false → list_any (bytes_eq text) (order ++ other ∷ []) ≡ false)
        → (t || list_any (bytes_eq text) (order ++ other ∷ [])) ≡ false
    by_test true absent later = absent
    by_test false absent later = later absent

-- A symbol of the table that has no place gets the next one.
pub placed_more : (table : List (List ℕ)) (places : List ℕ) (order : List (List ℕ)) (i m before : ℕ) (text : List ℕ) → IsDistinct bytes_eq table → ArePlaced table places order
    → slice_get table i ≡ Some text → slice_get places i ≡ Some before → m ≡ length order → m < no_place → ArePlaced table (set places i m) (order ++ text ∷ [])
placed_more table places order i m before text distinct placed there at last few j n other at_table at_places = by_place (equal_or j i)
  where
    by_place : (j ≡ i) ⊎ (j ≡ i → ⊥) → (n < no_place → slice_get (order ++ text ∷ []) n ≡ Some other) × (no_place ≤ n → list_any (bytes_eq other) (order ++ text ∷ []) ≡ false)
    by_place (inl e) =
        let noted : m ≡ n = set_there places i m before n at (ap (slice_get (set places i m)) (sym e) ∙ at_places) in
        let both : Some text ≡ Some other = sym there ∙ ap (slice_get table) (sym e) ∙ at_table in
        let is : text ≡ other = cc both in (
          λ small. stands_last order text n (sym noted ∙ last) ∙ ap Some is,
          λ large. absurd (omega (arith, noted, few, large)),
        )
    by_place (inr apart) =
        let old = placed j n other at_table (sym (set_elsewhere places i j m apart) ∙ at_places) in (
          λ small. keeps_front order (text ∷ []) n other (old.0 small),
          λ large. none_more other text order (old.1 large) (apart_at bytes_eq symbol_eq.lawful.laws text_sound table j i other text distinct at_table there apart),
        )
