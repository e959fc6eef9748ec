-- Numbers of uses after one use is added or removed, and the number of values that have uses.
use Rattle.std.proofs.Common.{◌≡◌, ℕ, zero, suc, ◌+◌, ◌<◌, ◌≤◌, Bool, true, false, cond, inl, inr, Some, None, List, [], ◌∷◌, ◌++◌, length, drop, take, filter, if◌then◌else◌, nat_lt, slice_get, refl, ap, ap₂, sym, ◌∙◌, true≢false, arith}
use Rattle.std.proofs.lemmas.Bool.{lt-ltb, ltb-true}
use Rattle.std.proofs.lemmas.List.Sums.{sum_by-cons, sum_by-append, count_by-le-length}
use Rattle.std.proofs.lemmas.Map.Entries.{lookup_from_place}
use Rattle.std.proofs.lemmas.Map.Made.{IsDistinct-keys_filter}
use Rattle.std.proofs.lemmas.Option.{slice_get-map}
use Rattle.std.specs.Cmp.{IsEquivalence}
use Rattle.std.specs.List.{AllByRecursion, IsDistinct, list_any}
use Rattle.std.specs.Map.{keys_of, values_of, lookup}
use Rattle.std.specs.Option.{option_map, unwrap_or}
use Rattle.indexmap.specs.IndexMap.{set_value_at}
use Rattle.tt_tables.specs.TableOrder.{different, uses_of}
use Rattle.tt_tables.specs.Counts.{number_in, used_count, CountsUses, CountsMore}
use Rattle.tt_tables.specs.Entries.{with_entry}
use Rattle.tt_tables.proofs.Cheapest.{length-same}
use Rattle.tt_tables.proofs.Members.{Member, member-different}
use Rattle.tt_tables.proofs.Used.{one_if, all_at_place, uses-one, uses_member, member_used, different_member, distinct-different}

-- ---- counts

module _ {X : Type 0} (same : X → X → Bool) (laws : IsEquivalence same) where
  -- A value has the number beside it.
  pub number_at : (counts : List (X × ℕ)) (i : ℕ) (x : X) (n : ℕ) → IsDistinct same (keys_of counts) → slice_get counts i ≡ Some (x, n) → number_in same counts x ≡ n
  number_at counts i x n distinct at = ap (λ found. unwrap_or found 0) (lookup_from_place laws counts i x n distinct at)

  -- One number is changed.
  pub number_set : (counts : List (X × ℕ)) (i : ℕ) (x : X) (n m : ℕ) (y : X) → IsDistinct same (keys_of counts) → slice_get counts i ≡ Some (x, n)
      → number_in same (set_value_at counts i m) y ≡ cond (same y x) m (number_in same counts y)
  unfolding IsDistinct
  number_set [] i x n m y distinct at = absurd (cc at)
  number_set (entry ∷ counts) zero x n m y distinct at = by_test (same y entry.0) ∙ ap (λ k. cond (same y k) m (number_in same (entry ∷ counts) y)) is_key
    where
      is_key : entry.0 ≡ x
      is_key = cc at

      by_test : (t : Bool) → unwrap_or (cond t (Some m) (lookup (same y) counts)) 0 ≡ cond t m (unwrap_or (cond t (Some entry.1) (lookup (same y) counts)) 0)
      by_test true = refl
      by_test false = refl
  number_set (entry ∷ counts) (suc i) x n m y distinct at = by_test (same y entry.0) refl (number_set counts i x n m y distinct.1 at)
    where
      apart : same entry.0 x ≡ false
      apart = all_at_place (λ z. same entry.0 z ≡ false) (keys_of counts) i x distinct.0 (slice_get-map (λ e. e.0) counts i ∙ ap (option_map (λ e. e.0)) at)

      by_test : (t : Bool) → same y entry.0 ≡ t
          → unwrap_or (lookup (same y) (set_value_at counts i m)) 0 ≡ cond (same y x) m (unwrap_or (lookup (same y) counts) 0)
          → unwrap_or (cond t (Some entry.1) (lookup (same y) (set_value_at counts i m))) 0 ≡ cond (same y x) m (unwrap_or (cond t (Some entry.1) (lookup (same y) counts)) 0)
      by_test true e later = ap (λ s. cond s m entry.1) (sym (laws.congr y entry.0 x e ∙ apart))
      by_test false e later = later

  module _ (sound : (x y : X) → same x y ≡ true → x ≡ y) where
    -- A value among the counts gets one use more.
    pub counts_one_more : (counts : List (X × ℕ)) (i : ℕ) (x : X) (n : ℕ) → IsDistinct same (keys_of counts) → slice_get counts i ≡ Some (x, n)
        → CountsMore same (x ∷ []) counts (set_value_at counts i (n + 1))
    counts_one_more counts i x n distinct at y =
        number_set counts i x n (n + 1) y distinct at ∙ by_test (same y x) refl ∙ ap (λ m. number_in same counts y + m) (sym (uses-one same x y))
      where
        by_test : (t : Bool) → same y x ≡ t → cond t (n + 1) (number_in same counts y) ≡ number_in same counts y + one_if t
        by_test true e = ap (λ m. m + 1) (sym (ap (number_in same counts) (sound y x e) ∙ number_at counts i x n distinct at))
        by_test false e = omega arith

    -- A value with a use loses one.
    pub counts_one_less : (counts : List (X × ℕ)) (i : ℕ) (x : X) (n m : ℕ) → IsDistinct same (keys_of counts) → slice_get counts i ≡ Some (x, n) → n ≡ m + 1
        → CountsMore same (x ∷ []) (set_value_at counts i m) counts
    counts_one_less counts i x n m distinct at fewer y =
        by_test (same y x) refl
        ∙ ap (λ k. k + one_if (same y x)) (sym (number_set counts i x n m y distinct at))
        ∙ ap (λ k. number_in same (set_value_at counts i m) y + k) (sym (uses-one same x y))
      where
        by_test : (t : Bool) → same y x ≡ t → number_in same counts y ≡ cond t m (number_in same counts y) + one_if t
        by_test true e = ap (number_in same counts) (sound y x e) ∙ number_at counts i x n distinct at ∙ fewer
        by_test false e = omega arith

-- ---- how many have uses

-- One number is changed.
pub used_set : {X : Type 0} (counts : List (X × ℕ)) (i n m : ℕ) → slice_get (values_of counts) i ≡ Some n
    → used_count (set_value_at counts i m) + one_if (nat_lt 0 n) ≡ used_count counts + one_if (nat_lt 0 m)
used_set [] i n m at = absurd (cc at)
used_set {X} (entry ∷ counts) zero n m at =
    omega (arith, sum_by-cons used (entry.0, m) counts, sum_by-cons used entry counts, ap (λ k. one_if (nat_lt 0 k)) number)
  where
    used : X × ℕ → ℕ
    used e = one_if (nat_lt 0 e.1)

    number : entry.1 ≡ n
    number = cc at
used_set {X} (entry ∷ counts) (suc i) n m at =
    omega (arith, sum_by-cons used entry (set_value_at counts i m), sum_by-cons used entry counts, used_set counts i n m at)
  where
    used : X × ℕ → ℕ
    used e = one_if (nat_lt 0 e.1)

-- There are no more values with uses than entries.
pub used-le : {X : Type 0} (counts : List (X × ℕ)) → used_count counts ≤ length counts
used-le counts = count_by-le-length (λ entry. nat_lt 0 entry.1) counts

module _ {X : Type 0} (same : X → X → Bool) (laws : IsEquivalence same) (sound : (x y : X) → same x y ≡ true → x ≡ y) where
  -- the entries with uses
  used : List (X × ℕ) → List (X × ℕ)
  used counts = filter (λ entry. nat_lt 0 entry.1) counts

  -- Their number is the count of them.
  length-used : (counts : List (X × ℕ)) → length (keys_of (used counts)) ≡ used_count counts
  unfolding used
  length-used [] = refl
  length-used (entry ∷ counts) = by_test (nat_lt 0 entry.1) (length-used counts) ∙ sym (sum_by-cons (λ e. one_if (nat_lt 0 e.1)) entry counts)
    where
      by_test : (t : Bool) → length (keys_of (used counts)) ≡ used_count counts
          → length (keys_of (cond t (entry ∷ used counts) (used counts))) ≡ one_if t + used_count counts
      by_test true later = omega (arith, later)
      by_test false later = omega (arith, later)

  -- A value with a number is one of them.
  number_used : (counts : List (X × ℕ)) (z : X) → 0 < number_in same counts z → Member z (keys_of (used counts))
  unfolding used
  number_used [] z some = absurd (none some)
    where
      none : 0 < 0 → ⊥
      none l = omega (arith, l)
  number_used (entry ∷ counts) z some = by_test (same z entry.0) refl some (number_used counts z)
    where
      further : (t : Bool) → Member z (keys_of (used counts)) → Member z (keys_of (cond t (entry ∷ used counts) (used counts)))
      further true m = inr m
      further false m = m

      kept : (t : Bool) → nat_lt 0 entry.1 ≡ t → 0 < entry.1 → z ≡ entry.0 → Member z (keys_of (cond t (entry ∷ used counts) (used counts)))
      kept true e l is = inl is
      kept false e l is = absurd (true≢false (sym (lt-ltb 0 entry.1 l) ∙ e))

      by_test : (t : Bool) → same z entry.0 ≡ t → 0 < unwrap_or (cond t (Some entry.1) (lookup (same z) counts)) 0
          → (0 < number_in same counts z → Member z (keys_of (used counts))) → Member z (keys_of (cond (nat_lt 0 entry.1) (entry ∷ used counts) (used counts)))
      by_test true e some later = kept (nat_lt 0 entry.1) refl some (sound z entry.0 e)
      by_test false e some later = further (nat_lt 0 entry.1) (later some)

  -- A value among them is one of all values.
  used_apart : (x z : X) (counts : List (X × ℕ)) → AllByRecursion (λ y. same x y ≡ false) (keys_of counts) → Member z (keys_of (used counts)) → same x z ≡ false
  unfolding used
  used_apart x z [] all m = absurd m
  used_apart x z (entry ∷ counts) all m = by_test (nat_lt 0 entry.1) m (used_apart x z counts all.1)
    where
      by_test : (t : Bool) → Member z (keys_of (cond t (entry ∷ used counts) (used counts))) → (Member z (keys_of (used counts)) → same x z ≡ false) → same x z ≡ false
      by_test true (inl e) later = ap (same x) e ∙ all.0
      by_test true (inr m) later = later m
      by_test false m later = later m

  -- It has a number above 0.
  used_number : (counts : List (X × ℕ)) (z : X) → IsDistinct same (keys_of counts) → Member z (keys_of (used counts)) → 0 < number_in same counts z
  unfolding used IsDistinct
  used_number [] z distinct m = absurd m
  used_number (entry ∷ counts) z distinct m = by_test (nat_lt 0 entry.1) refl m (used_number counts z distinct.1)
    where
      behind : (t : Bool) → same z entry.0 ≡ t → Member z (keys_of (used counts)) → (Member z (keys_of (used counts)) → 0 < number_in same counts z)
          → 0 < unwrap_or (cond t (Some entry.1) (lookup (same z) counts)) 0
      behind true e m later = absurd (true≢false (sym (laws.symm entry.0 z ∙ e) ∙ used_apart entry.0 z counts distinct.0 m))
      behind false e m later = later m

      first : (t : Bool) → same z entry.0 ≡ t → z ≡ entry.0 → 0 < entry.1 → 0 < unwrap_or (cond t (Some entry.1) (lookup (same z) counts)) 0
      first true e is some = some
      first false e is some = absurd (true≢false (sym (ap (λ k. same k entry.0) is ∙ laws.refl entry.0) ∙ e))

      by_test : (t : Bool) → nat_lt 0 entry.1 ≡ t → Member z (keys_of (cond t (entry ∷ used counts) (used counts))) → (Member z (keys_of (used counts)) → 0 < number_in same counts z)
          → 0 < number_in same (entry ∷ counts) z
      by_test true e (inl is) later = first (same z entry.0) refl is (ltb-true 0 entry.1 e)
      by_test true e (inr m) later = behind (same z entry.0) refl m later
      by_test false e m later = behind (same z entry.0) refl m later

  -- The number of values with uses is that of the different used values.
  pub used_different : (uses : List X) (counts : List (X × ℕ)) → IsDistinct same (keys_of counts) → CountsUses same uses counts → used_count counts ≡ length (different same uses)
  unfolding used
  used_different uses counts distinct right =
      sym (length-used counts)
      ∙ length-same same sound complete (keys_of (used counts)) (different same uses) (IsDistinct-keys_filter same (λ entry. nat_lt 0 entry.1) counts distinct) (distinct-different same laws sound uses)
      (record {
        there = λ z m. member-different same sound complete z uses (uses_member same laws sound uses z (omega (arith, right z, used_number counts z distinct m)));
        back = λ z m. number_used counts z (omega (arith, right z, member_used same laws sound uses z (different_member same laws sound z uses m)));
      })
    where
      complete : (x : X) → same x x ≡ true
      complete x = laws.refl x

-- ---- the last entries without uses

module _ {X : Type 0} (same : X → X → Bool) where
  -- If no entry has uses, no value has.
  number_none : (counts : List (X × ℕ)) (x : X) → AllByRecursion (λ number. number ≡ 0) (values_of counts) → number_in same counts x ≡ 0
  number_none [] x none = refl
  number_none (entry ∷ counts) x none = by_test (same x entry.0) (number_none counts x none.1)
    where
      by_test : (t : Bool) → number_in same counts x ≡ 0 → unwrap_or (cond t (Some entry.1) (lookup (same x) counts)) 0 ≡ 0
      by_test true behind = none.0
      by_test false behind = behind

  -- Without the last entries without uses, each value has its old number.
  pub number_front : (counts : List (X × ℕ)) (len : ℕ) (x : X) → AllByRecursion (λ number. number ≡ 0) (drop len (values_of counts)) → number_in same (take len counts) x ≡ number_in same counts x
  number_front [] zero x none = refl
  number_front [] (suc len) x none = refl
  number_front (entry ∷ counts) zero x none = sym (number_none (entry ∷ counts) x none)
  number_front (entry ∷ counts) (suc len) x none = by_test (same x entry.0) (number_front counts len x none)
    where
      by_test : (t : Bool) → number_in same (take len counts) x ≡ number_in same counts x
          → unwrap_or (cond t (Some entry.1) (lookup (same x) (take len counts))) 0 ≡ unwrap_or (cond t (Some entry.1) (lookup (same x) counts)) 0
      by_test true behind = refl
      by_test false behind = behind

used_none : {X : Type 0} (counts : List (X × ℕ)) → AllByRecursion (λ number. number ≡ 0) (values_of counts) → used_count counts ≡ 0
used_none [] none = refl
used_none (entry ∷ counts) none =
    omega (arith, sum_by-cons (λ e. one_if (nat_lt 0 e.1)) entry counts, ap (λ n. one_if (nat_lt 0 n)) none.0, used_none counts none.1)

-- As many values have uses.
pub used_front : {X : Type 0} (counts : List (X × ℕ)) (len : ℕ) → AllByRecursion (λ number. number ≡ 0) (drop len (values_of counts)) → used_count (take len counts) ≡ used_count counts
used_front [] zero none = refl
used_front [] (suc len) none = refl
used_front (entry ∷ counts) zero none = sym (used_none (entry ∷ counts) none)
used_front (entry ∷ counts) (suc len) none =
    omega (arith, sum_by-cons (λ e. one_if (nat_lt 0 e.1)) entry (take len counts), sum_by-cons (λ e. one_if (nat_lt 0 e.1)) entry counts, used_front counts len none)

-- ---- the place of a value

-- An entry has a key and a number.
pub entry_at : {X : Type 0} (counts : List (X × ℕ)) (i : ℕ) (x : X) (n : ℕ) → slice_get (keys_of counts) i ≡ Some x → slice_get (values_of counts) i ≡ Some n → slice_get counts i ≡ Some (x, n)
entry_at [] i x n at number = absurd (cc at)
entry_at {X} (entry ∷ counts) zero x n at number = ap₂ (λ k m. Some (k, m)) key value
  where
    key : entry.0 ≡ x
    key = cc at

    value : entry.1 ≡ n
    value = cc number
entry_at (entry ∷ counts) (suc i) x n at number = entry_at counts i x n at number

-- ---- one more value

-- A value without uses does not change the number of values with uses.
pub used_new : {X : Type 0} (counts : List (X × ℕ)) (x : X) → used_count (counts ++ (x, 0) ∷ []) ≡ used_count counts
used_new {X} counts x = omega (arith, sum_by-append used counts ((x, 0) ∷ []), sum_by-cons used (x, 0) [], none)
  where
    used : X × ℕ → ℕ
    used e = one_if (nat_lt 0 e.1)

    none : used_count {X = X} [] ≡ 0
    none = refl

module _ {X : Type 0} (same : X → X → Bool) where
  -- A value without uses changes no number.
  pub number_new : (counts : List (X × ℕ)) (x y : X) → number_in same (counts ++ (x, 0) ∷ []) y ≡ number_in same counts y
  number_new [] x y = by_test (same y x)
    where
      nothing : ℕ
      nothing = 0

      by_test : (t : Bool) → unwrap_or (cond t (Some nothing) None) 0 ≡ nothing
      by_test true = refl
      by_test false = refl
  number_new (entry ∷ counts) x y = by_test (same y entry.0) (number_new counts x y)
    where
      by_test : (t : Bool) → number_in same (counts ++ (x, 0) ∷ []) y ≡ number_in same counts y
          → unwrap_or (cond t (Some entry.1) (lookup (same y) (counts ++ (x, 0) ∷ []))) 0 ≡ unwrap_or (cond t (Some entry.1) (lookup (same y) counts)) 0
      by_test true later = refl
      by_test false later = later

  -- The same for a value that may have an entry already.
  pub number_with_entry : (counts : List (X × ℕ)) (x y : X) → number_in same (with_entry same counts x) y ≡ number_in same counts y
  number_with_entry counts x y = by_test (list_any (same x) (keys_of counts))
    where
      by_test : (t : Bool) → number_in same (if t then counts else counts ++ (x, 0) ∷ []) y ≡ number_in same counts y
      by_test true = refl
      by_test false = number_new counts x y

-- ---- the relation

module _ {X : Type 0} (same : X → X → Bool) where
  -- An entry for a value changes no number.
  pub counts_with_entry : (counts : List (X × ℕ)) (x : X) → CountsMore same [] counts (with_entry same counts x)
  counts_with_entry counts x y = omega (arith, number_with_entry same counts x y, none)
    where
      none : uses_of same [] y ≡ 0
      none = refl

  -- A value has no more uses than there are uses.
  pub uses-le : (uses : List X) (x : X) → uses_of same uses x ≤ length uses
  uses-le uses x = count_by-le-length (same x) uses
