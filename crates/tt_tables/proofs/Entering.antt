-- A value is inserted, and its number is set if it was there before.
use Rattle.std.proofs.Common.{◌≡◌, ℕ, suc, Bool, true, false, cond, Some, None, List, [], ◌∷◌, slice_get, refl, ap, sym}
use Rattle.std.specs.Map.{keys_of, lookup}
use Rattle.indexmap.specs.IndexMap.{insert_entry, set_value_at}
use Rattle.tt_tables.specs.Entering.{entered}
use Rattle.tt_tables.specs.TableOrder.{index_in}

-- `same` is whether two values are equal
module _ {X : Type 0} (same : X → X → Bool) (new : ℕ) (again : ℕ → ℕ) where
  -- If the value is there, the entries with another number for it are those after it.
  pub entered_again : (entries : List (X × ℕ)) (x : X) (n : ℕ) → lookup (same x) entries ≡ Some n
      → set_value_at (insert_entry same entries x new) (index_in (same x) (keys_of entries)) (again n) ≡ entered same new again entries x
  entered_again [] x n there = absurd (cc there)
  entered_again (entry ∷ entries) x n there = by_test (same x entry.0) there (entered_again entries x n)
    where
      index : ℕ
      index = index_in (same x) (keys_of entries)

      by_test : (t : Bool) → cond t (Some entry.1) (lookup (same x) entries) ≡ Some n
          → (lookup (same x) entries ≡ Some n → set_value_at (insert_entry same entries x new) index (again n) ≡ entered same new again entries x)
          → set_value_at (cond t ((entry.0, new) ∷ entries) (entry ∷ insert_entry same entries x new)) (cond t 0 (suc index)) (again n)
          ≡ cond t ((entry.0, again entry.1) ∷ entries) (entry ∷ entered same new again entries x)
      by_test true there later = ap (λ m. (entry.0, again m) ∷ entries) (sym number)
        where
          number : entry.1 ≡ n
          number = cc there
      by_test false there later = ap (λ rest. entry ∷ rest) (later there)

  -- If the value is new, the entries with it at the end are those after it.
  pub entered_new : (entries : List (X × ℕ)) (x : X) → lookup (same x) entries ≡ None → insert_entry same entries x new ≡ entered same new again entries x
  entered_new [] x none = refl
  entered_new (entry ∷ entries) x none = by_test (same x entry.0) none (entered_new entries x)
    where
      by_test : (t : Bool) → cond t (Some entry.1) (lookup (same x) entries) ≡ None
          → (lookup (same x) entries ≡ None → insert_entry same entries x new ≡ entered same new again entries x)
          → cond t ((entry.0, new) ∷ entries) (entry ∷ insert_entry same entries x new) ≡ cond t ((entry.0, again entry.1) ∷ entries) (entry ∷ entered same new again entries x)
      by_test true none later = absurd (cc none)
      by_test false none later = ap (λ rest. entry ∷ rest) (later none)

  -- The value is at the place of its first entry, or at the last one.
  pub stands_entered : ((x y : X) → same x y ≡ true → x ≡ y) → (entries : List (X × ℕ)) (x : X)
      → slice_get (keys_of (entered same new again entries x)) (index_in (same x) (keys_of entries)) ≡ Some x
  stands_entered sound [] x = refl
  stands_entered sound (entry ∷ entries) x = by_test (same x entry.0) refl (stands_entered sound entries x)
    where
      by_test : (t : Bool) → same x entry.0 ≡ t → slice_get (keys_of (entered same new again entries x)) (index_in (same x) (keys_of entries)) ≡ Some x
          → slice_get (keys_of (cond t ((entry.0, again entry.1) ∷ entries) (entry ∷ entered same new again entries x))) (cond t 0 (suc (index_in (same x) (keys_of entries)))) ≡ Some x
      by_test true e later = ap Some (sym (sound x entry.0 e))
      by_test false e later = later
