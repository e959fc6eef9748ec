-- The values of a table.
use Rattle.std.proofs.Common.{◌≡◌, ℕ, suc, ◌<◌, Bool, true, false, not, cond, ◌⊎◌, inl, inr, List, [], ◌∷◌, length, filter, nat_lt, nat_le, refl, ap, sym, ◌∙◌, arith}
use Rattle.std.specs.List.{AllByRecursion}
use Rattle.tt_tables.specs.TableOrder.{index_in, different, insert_falling, falling, uses_of, table}

-- x is one of the list
abbrev pub Member : {X : Type 0} → X → List X → Type 0
Member x [] = ⊥
Member x (y ∷ ys) = (x ≡ y) ⊎ Member x ys

-- `same` is whether two values are equal
module _ {X : Type 0} (same : X → X → Bool) (sound : (x y : X) → same x y ≡ true → x ≡ y) (complete : (x : X) → same x x ≡ true) where
  pub member_found : (x : X) (xs : List X) → Member x xs → index_in (same x) xs < length xs
  member_found x [] h = absurd h
  member_found x (y ∷ ys) (inl e) = at_head
    where
      at_head : index_in (same x) (y ∷ ys) < suc (length ys)
      at_head = rw (ap (same x) (sym e) ∙ complete x) (omega arith)
  member_found x (y ∷ ys) (inr h) = by_test (same x y) (member_found x ys h)
    where
      by_test : (t : Bool) → index_in (same x) ys < length ys → cond t 0 (suc (index_in (same x) ys)) < suc (length ys)
      by_test true h = omega arith
      by_test false h = omega arith

  pub member-filter : (x : X) (test : X → Bool) (xs : List X) → test x ≡ true → Member x xs → Member x (filter test xs)
  member-filter x test [] p h = h
  member-filter x test (y ∷ ys) p (inl e) = rw (ap test (sym e) ∙ p) (inl e)
  member-filter x test (y ∷ ys) p (inr h) = by_test (test y) (member-filter x test ys p h)
    where
      by_test : (t : Bool) → Member x (filter test ys) → Member x (cond t (y ∷ filter test ys) (filter test ys))
      by_test true h = inr h
      by_test false h = h

  pub member-different : (x : X) (xs : List X) → Member x xs → Member x (different same xs)
  member-different x [] h = h
  member-different x (y ∷ ys) (inl e) = inl e
  member-different x (y ∷ ys) (inr h) = by_test (same y x) refl (member-different x ys h)
    where
      by_test : (t : Bool) → same y x ≡ t → Member x (different same ys) → (x ≡ y) ⊎ Member x (filter (λ z. not (same y z)) (different same ys))
      by_test true e h = inl (sym (sound y x e))
      by_test false e h = inr (member-filter x (λ z. not (same y z)) (different same ys) (ap not e) h)

  member-insert : (weight : X → ℕ) (x z : X) (xs : List X) → (x ≡ z) ⊎ Member x xs → Member x (insert_falling same weight z xs)
  member-insert weight x z [] h = h
  member-insert weight x z (y ∷ ys) h = by_test (nat_lt (weight z) (weight y)) h (member-insert weight x z ys)
    where
      by_test : (t : Bool) → (x ≡ z) ⊎ Member x (y ∷ ys) → ((x ≡ z) ⊎ Member x ys → Member x (insert_falling same weight z ys))
          → Member x (cond t (y ∷ insert_falling same weight z ys) (z ∷ y ∷ ys))
      by_test true (inl e) later = inr (later (inl e))
      by_test true (inr (inl e)) later = inl e
      by_test true (inr (inr h)) later = inr (later (inr h))
      by_test false h later = h

  pub member-falling : (weight : X → ℕ) (x : X) (xs : List X) → Member x xs → Member x (falling same weight xs)
  member-falling weight x [] h = h
  member-falling weight x (y ∷ ys) (inl e) = member-insert weight x y (falling same weight ys) (inl e)
  member-falling weight x (y ∷ ys) (inr h) = member-insert weight x y (falling same weight ys) (inr (member-falling weight x ys h))

  pub member-table : (short : ℕ) (x : X) (uses : List X) → Member x uses → Member x (table same short uses)
  unfolding table
  member-table short x uses h = by_test (nat_le (length (different same uses)) short)
    where
      by_test : (t : Bool) → Member x (cond t (different same uses) (falling same (uses_of same uses) (different same uses)))
      by_test true = member-different x uses h
      by_test false = member-falling (uses_of same uses) x (different same uses) (member-different x uses h)

  -- All values of one list are in another, if the other has each of them.
  pub all_found : (xs values : List X) → ((x : X) → Member x xs → Member x values) → AllByRecursion (λ x. index_in (same x) values < length values) xs
  all_found [] values h = tt
  all_found (x ∷ xs) values h = (member_found x values (h x (inl refl)), all_found xs values (λ y m. h y (inr m)))
