-- The number of used values, and their places in the order of first uses.
use Rattle.std.proofs.Common.{◌≡◌, ℕ, suc, ◌+◌, ◌<◌, ◌⊎◌, inl, inr, Bool, true, false, cond, Some, List, [], ◌∷◌, map, filter, length, count_by, nat_lt, slice_get, refl, ap, sym, subst, ◌∙◌, arith}
use Rattle.std.proofs.lemmas.Bool.{lt-ltb, ltb-true}
use Rattle.std.proofs.lemmas.List.Sums.{sum_by-cons}
use Rattle.std.specs.Cmp.{IsEquivalence}
use Rattle.std.specs.List.{AllByRecursion, IsDistinct}
use Rattle.tt_tables.specs.TableOrder.{index_in, IsIn, different, uses_of}
use Rattle.tt_tables.proofs.Cheapest.{length-same}
use Rattle.tt_tables.proofs.Members.{Member, member-different, member-filter}
use Rattle.tt_tables.proofs.TableOrder.{all_filter}
use Rattle.tt_tables.proofs.Used.{one_if, unfiltered, uses_member, member_used, different_member, distinct-different}

module _ {X : Type 0} where
  -- A value in a list has an index.
  pub member_stands : (z : X) (xs : List X) → Member z xs → (i : ℕ) × (slice_get xs i ≡ Some z)
  member_stands z [] m = absurd m
  member_stands z (x ∷ xs) (inl is) = (0, ap Some (sym is))
  member_stands z (x ∷ xs) (inr m) = let found = member_stands z xs m in (suc found.0, found.1)

  -- As many items pass the filter as have numbers above 0.
  length-passed : (f : X → ℕ) (xs : List X) → length (filter (λ x. nat_lt 0 (f x)) xs) ≡ count_by (nat_lt 0) (map f xs)
  length-passed f [] = refl
  length-passed f (x ∷ xs) = by_test (nat_lt 0 (f x)) (length-passed f xs) ∙ sym (sum_by-cons (λ n. one_if (nat_lt 0 n)) (f x) (map f xs))
    where
      by_test : (t : Bool) → length (filter (λ x. nat_lt 0 (f x)) xs) ≡ count_by (nat_lt 0) (map f xs)
          → length (cond t (x ∷ filter (λ x. nat_lt 0 (f x)) xs) (filter (λ x. nat_lt 0 (f x)) xs)) ≡ one_if t + count_by (nat_lt 0) (map f xs)
      by_test true later = omega (arith, later)
      by_test false later = omega (arith, later)

module _ {X : Type 0} (same : X → X → Bool) (laws : IsEquivalence same) (sound : (x y : X) → same x y ≡ true → x ≡ y) where
  -- Items that pass a filter are all different, if they were before.
  distinct-filter : (test : X → Bool) (xs : List X) → IsDistinct same xs → IsDistinct same (filter test xs)
  unfolding IsDistinct
  distinct-filter test [] h = h
  distinct-filter test (x ∷ xs) h = by_test (test x) (distinct-filter test xs h.1)
    where
      by_test : (t : Bool) → IsDistinct same (filter test xs) → IsDistinct same (cond t (x ∷ filter test xs) (filter test xs))
      by_test true later = (all_filter (λ y. same x y ≡ false) (λ y. same x y ≡ false) test xs (λ y p q. q) h.0, later)
      by_test false later = later

  -- As many values have uses as there are different ones among the uses.
  pub used_different : (uses values : List X) → IsDistinct same values → ((z : X) → Member z uses → Member z values)
      → count_by (nat_lt 0) (map (uses_of same uses) values) ≡ length (different same uses)
  used_different uses values distinct all =
      sym (length-passed (uses_of same uses) values)
      ∙ length-same same sound complete (filter is_used values) (different same uses) (distinct-filter is_used values distinct) (distinct-different same laws sound uses)
      (record {
        there = λ z m. member-different same sound complete z uses (uses_member same laws sound uses z (ltb-true 0 (uses_of same uses z) (unfiltered is_used z values m).1));
        back = λ z m. let used = different_member same laws sound z uses m in member-filter same sound complete z is_used values (lt-ltb 0 (uses_of same uses z) (member_used same laws sound uses z used)) (all z used);
      })
    where
      is_used : X → Bool
      is_used x = nat_lt 0 (uses_of same uses x)

      complete : (x : X) → same x x ≡ true
      complete x = laws.refl x

  -- A value that is found is in the list.
  found_member : (x : X) (xs : List X) → IsIn same xs x → Member x xs
  found_member x [] found = absurd (omega (arith, found))
  found_member x (y ∷ xs) found = by_test (same x y) refl found (found_member x xs)
    where
      by_test : (t : Bool) → same x y ≡ t → cond t 0 (suc (index_in (same x) xs)) < suc (length xs) → (IsIn same xs x → Member x xs) → (x ≡ y) ⊎ Member x xs
      by_test true e l later = inl (sound x y e)
      by_test false e l later = inr (later (omega (arith, l)))

  all_member : (P : X → Type 0) (z : X) (xs : List X) → AllByRecursion P xs → Member z xs → P z
  all_member P z [] h m = absurd m
  all_member P z (x ∷ xs) h (inl is) = subst P (sym is) h.0
  all_member P z (x ∷ xs) h (inr m) = all_member P z xs h.1 m

  -- A value of a table of used values is one of the different values.
  pub stands_by_first_use : (uses table : List X) (x : X) → AllByRecursion (IsIn same uses) table → IsIn same table x → (i : ℕ) × (slice_get (different same uses) i ≡ Some x)
  stands_by_first_use uses table x only found =
      member_stands x (different same uses)
      (member-different same sound (λ y. laws.refl y) x uses (found_member x uses (all_member (IsIn same uses) x table only (found_member x table found))))
