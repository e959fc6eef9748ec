-- How calls change values at places, each beside its number of uses.
use Rattle.std.proofs.Common.{◌≡◌, ℕ, zero, suc, ◌+◌, ◌-◌, ◌<◌, ◌≤◌, Bool, true, false, cond, ◌||◌, if◌then◌else◌, Some, List, [], ◌∷◌, ◌++◌, length, nat_eq, nat_lt, slice_get, Result, Ok, Err, OnOk, OnErr, refl, ap, sym, subst, ◌∙◌, arith}
use Rattle.std.proofs.lemmas.Bool.{lt-ltb, ne_eqb}
use Rattle.std.proofs.lemmas.Option.{slice_get-map}
use Rattle.std.specs.Cmp.{IsEquivalence}
use Rattle.std.specs.List.{IsDistinct, AllZip, list_any}
use Rattle.std.specs.Map.{keys_of, values_of}
use Rattle.std.specs.Option.{option_map}
use Rattle.indexmap.specs.IndexMap.{set_value_at}
use Rattle.tt_tables.specs.Entering.{entered}
use Rattle.tt_tables.specs.Counts.{number_in, used_count, CountsMore}
use Rattle.tt_tables.specs.Entries.{with_entry}
use Rattle.tt_tables.proofs.UseCounts.{number_at, counts_one_more, counts_one_less, used_new, used_set, used-le}
use Rattle.tt_tables.proofs.Used.{one_if}
use mir.Val.{bool_byte}

-- ---- a value gets an entry, unless it has one

module _ {X : Type 0} (same : X → X → Bool) where
  -- A value that has an entry gets none.
  pub entry_there : (counts : List (X × ℕ)) (x : X) → list_any (same x) (keys_of counts) ≡ true → with_entry same counts x ≡ counts
  entry_there counts x some = ap (λ t. if t then counts else counts ++ (x, 0) ∷ []) some

  -- A value has an entry after it is entered with no uses, or with its old number.
  pub entered_is : (counts : List (X × ℕ)) (x : X) → entered same 0 (λ n. n) counts x ≡ with_entry same counts x
  entered_is [] x = refl
  entered_is (entry ∷ counts) x = by_test (same x entry.0) (list_any (same x) (keys_of counts)) (entered_is counts x)
    where
      by_test : (t some : Bool) → entered same 0 (λ n. n) counts x ≡ (if some then counts else counts ++ (x, 0) ∷ [])
          → cond t (entry ∷ counts) (entry ∷ entered same 0 (λ n. n) counts x) ≡ (if t || some then entry ∷ counts else entry ∷ counts ++ (x, 0) ∷ [])
      by_test true some later = refl
      by_test false true later = ap (λ rest. entry ∷ rest) later
      by_test false false later = ap (λ rest. entry ∷ rest) later

-- ---- the entry at a place, and another number in it

-- The value and the number of an entry.
key_at : {X : Type 0} (counts : List (X × ℕ)) (i : ℕ) (x : X) (n : ℕ) → slice_get counts i ≡ Some (x, n) → slice_get (keys_of counts) i ≡ Some x
key_at counts i x n at = slice_get-map (λ entry. entry.0) counts i ∙ ap (option_map (λ entry. entry.0)) at

uses_at : {X : Type 0} (counts : List (X × ℕ)) (i : ℕ) (x : X) (n : ℕ) → slice_get counts i ≡ Some (x, n) → slice_get (values_of counts) i ≡ Some n
uses_at counts i x n at = slice_get-map (λ entry. entry.1) counts i ∙ ap (option_map (λ entry. entry.1)) at

module _ {X : Type 0} (counts : List (X × ℕ)) (i : ℕ) (x : X) (n : ℕ) (stands : slice_get counts i ≡ Some (x, n)) where
  -- With one use more at the place, one value more has uses if it had none.
  pub used_more : used_count counts + bool_byte (nat_eq n 0) ≡ used_count (set_value_at counts i (n + 1))
  used_more = by_number n (used_set counts i n (n + 1) (uses_at counts i x n stands))
    where
      by_number : (k : ℕ) → used_count (set_value_at counts i (n + 1)) + one_if (nat_lt 0 k) ≡ used_count counts + one_if (nat_lt 0 (n + 1))
          → used_count counts + bool_byte (nat_eq k 0) ≡ used_count (set_value_at counts i (n + 1))
      by_number zero e = omega (arith, e, ap one_if (lt-ltb 0 (n + 1) (omega arith)))
      by_number (suc k) e =
          omega (arith, e, ap one_if (lt-ltb 0 (n + 1) (omega arith)), ap one_if (lt-ltb 0 (suc k) (omega arith)), ap bool_byte (ne_eqb (suc k) 0 (λ none. omega (arith, none))))

  -- There are no more values with uses than values.
  pub used_within : used_count counts + bool_byte (nat_eq n 0) ≤ length counts
  used_within = omega (arith, used_more, used-le (set_value_at counts i (n + 1)), as_long counts i)
    where
      as_long : (more : List (X × ℕ)) (k : ℕ) → length (set_value_at more k (n + 1)) ≡ length more
      as_long [] k = refl
      as_long (entry ∷ more) zero = refl
      as_long (entry ∷ more) (suc k) = ap suc (as_long more k)

  -- With one use less at the place, one value less has uses if this was its last.
  pub used_less : 0 < n → used_count (set_value_at counts i (n - 1)) + bool_byte (nat_eq n 1) ≡ used_count counts
  used_less some = by_number n some (used_set counts i n (n - 1) (uses_at counts i x n stands))
    where
      by_number : (k : ℕ) → 0 < k → used_count (set_value_at counts i (n - 1)) + one_if (nat_lt 0 k) ≡ used_count counts + one_if (nat_lt 0 (k - 1))
          → used_count (set_value_at counts i (n - 1)) + bool_byte (nat_eq k 1) ≡ used_count counts
      by_number zero some e = absurd (omega (arith, some))
      by_number (suc zero) some e = omega (arith, e)
      by_number (suc (suc k)) some e =
          omega (
            arith,
            e,
            ap one_if (lt-ltb 0 (suc (suc k)) (omega arith)),
            ap one_if (lt-ltb 0 (suc (suc k) - 1) (omega arith)),
            ap bool_byte (ne_eqb (suc (suc k)) 1 (λ last. omega (arith, last))),
          )

  -- The value is at the place.
  pub stands_at : slice_get (keys_of counts) i ≡ Some x
  stands_at = key_at counts i x n stands

  one_value : (y : X) → slice_get (keys_of counts) i ≡ Some y → x ≡ y
  one_value y at = is (sym stands_at ∙ at)
    where
      is : Some x ≡ Some y → x ≡ y
      is e = cc e

  module _ (same : X → X → Bool) (laws : IsEquivalence same) (distinct : IsDistinct same (keys_of counts)) where
    -- It has the number.
    pub number_there : number_in same counts x ≡ n
    number_there = number_at same laws counts i x n distinct stands

    -- The value there gets one use more.
    pub one_more : ((y z : X) → same y z ≡ true → y ≡ z) → (y : X) → slice_get (keys_of counts) i ≡ Some y → CountsMore same (y ∷ []) counts (set_value_at counts i (n + 1))
    one_more sound y at =
        subst (λ z. CountsMore same (z ∷ []) counts (set_value_at counts i (n + 1))) (one_value y at) (counts_one_more same laws sound counts i x n distinct stands)

    -- The value there loses one.
    pub one_less : ((y z : X) → same y z ≡ true → y ≡ z) → 0 < n → (y : X) → slice_get (keys_of counts) i ≡ Some y → CountsMore same (y ∷ []) (set_value_at counts i (n - 1)) counts
    one_less sound some y at =
        subst (λ z. CountsMore same (z ∷ []) (set_value_at counts i (n - 1)) counts) (one_value y at)
        (counts_one_less same laws sound counts i x n (n - 1) distinct stands (omega (arith, some)))

-- The values stay if a number changes.
pub keys_kept : {X : Type 0} (counts : List (X × ℕ)) (i m : ℕ) → keys_of (set_value_at counts i m) ≡ keys_of counts
keys_kept [] i m = refl
keys_kept (entry ∷ counts) zero m = refl
keys_kept (entry ∷ counts) (suc i) m = ap (λ keys. entry.0 ∷ keys) (keys_kept counts i m)

-- No value is after the last place.
pub no_value_behind : {X : Type 0} (counts : List (X × ℕ)) (i : ℕ) (x : X) → length counts ≤ i → slice_get (keys_of counts) i ≡ Some x → ⊥
no_value_behind [] i x past at = absurd (cc at)
no_value_behind (entry ∷ counts) zero x past at = absurd (omega (arith, past))
no_value_behind (entry ∷ counts) (suc i) x past at = no_value_behind counts i x (omega (arith, past)) at

-- Entries that are copies of others, one by one, are equal to them.
pub copied : {X : Type 0} (is_copy : X → X → Type 0) → ((x y : X) → is_copy x y → y ≡ x) → (counts now : List (X × ℕ)) → AllZip (λ p q. is_copy p.0 q.0 × (q.1 ≡ p.1)) counts now → now ≡ counts
copied is_copy copies [] [] all = refl
copied is_copy copies [] (q ∷ now) all = absurd all
copied is_copy copies (p ∷ counts) [] all = absurd all
copied is_copy copies (p ∷ counts) (q ∷ now) all =
    ap (λ k. (k, q.1) ∷ now) (copies p.0 q.0 all.0.0) ∙ ap (λ m. (p.0, m) ∷ now) all.0.1 ∙ ap (λ rest. p ∷ rest) (copied is_copy copies counts now all.1)

-- ---- after a value gets an entry, or memory runs out for it

module _ {X R E : Type 0} (same : X → X → Bool) (result : Result R E) (old now : List (X × ℕ)) where
  -- The values are still different.
  pub distinct_still : IsDistinct same (keys_of old) → OnOk result (IsDistinct same (keys_of now)) → OnErr result (now ≡ old) → IsDistinct same (keys_of now)
  distinct_still distinct = by_result result
    where
      by_result : (r : Result R E) → OnOk r (IsDistinct same (keys_of now)) → OnErr r (now ≡ old) → IsDistinct same (keys_of now)
      by_result (Ok v) ok err = ok
      by_result (Err e) ok err = subst (λ entries. IsDistinct same (keys_of entries)) (sym err) distinct

  -- As many values have uses as before.
  pub used_still : (x : X) → OnOk result (now ≡ with_entry same old x) → OnErr result (now ≡ old) → used_count now ≡ used_count old
  used_still x = by_result result
    where
      by_test : (t : Bool) → used_count (if t then old else old ++ (x, 0) ∷ []) ≡ used_count old
      by_test true = refl
      by_test false = used_new old x

      by_result : (r : Result R E) → OnOk r (now ≡ with_entry same old x) → OnErr r (now ≡ old) → used_count now ≡ used_count old
      by_result (Ok v) ok err = ap used_count ok ∙ by_test (list_any (same x) (keys_of old))
      by_result (Err e) ok err = ap used_count err
