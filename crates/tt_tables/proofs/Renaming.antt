-- A renaming that keeps values different keeps their numbers of uses, the order of their first uses, and so their table.
use Rattle.std.proofs.Common.{◌≡◌, ℕ, suc, ◌+◌, Bool, true, false, not, cond, inl, inr, List, [], ◌∷◌, length, map, filter, nat_lt, nat_le, refl, ap, ap₂, sym, ◌∙◌}
use Rattle.std.proofs.lemmas.Bool.{true≢false}
use Rattle.std.proofs.lemmas.List.{length-map}
use Rattle.std.proofs.lemmas.List.Sums.{sum_by-cons}
use Rattle.std.specs.List.{AllByRecursion, IsDistinct}
use Rattle.tt_tables.specs.TableOrder.{index_in, IsEarlier, IsIn, different, insert_falling, falling, uses_of, table}
use Rattle.tt_tables.proofs.Members.{Member}
use Rattle.tt_tables.proofs.TableOrder.{all_different, all_falling}
use Rattle.tt_tables.proofs.TableUnique.{found_member}

-- `same` is whether two values are equal, and h gives each value another name
module _ {X : Type 0} (same : X → X → Bool) (sound : (x y : X) → same x y ≡ true → x ≡ y) (complete : (x : X) → same x x ≡ true) (h : X → X) where
  -- ---- values that stay different

  same_swapped : (x y : X) → same x y ≡ false → same y x ≡ false
  same_swapped x y e = by_test (same y x) refl
    where
      by_test : (t : Bool) → same y x ≡ t → t ≡ false
      by_test true f = absurd (true≢false (sym (complete x) ∙ ap (same x) (sym (sound y x f)) ∙ e))
      by_test false f = refl

  -- A value that is none of the names is not the name of one of the values.
  no_name : (z y : X) (xs : List X) → AllByRecursion (λ n. same z n ≡ false) (map h xs) → Member y xs → same z (h y) ≡ false
  no_name z y [] all m = absurd m
  no_name z y (x ∷ xs) all (inl e) = ap (λ w. same z (h w)) e ∙ all.0
  no_name z y (x ∷ xs) all (inr m) = no_name z y xs all.1 m

  different_names : (xs : List X) → IsDistinct same (map h xs) → (x y : X) → Member x xs → Member y xs → same x y ≡ false → same (h x) (h y) ≡ false
  unfolding IsDistinct
  different_names [] once x y m n e = absurd m
  different_names (z ∷ zs) once x y (inl a) (inl b) e = absurd (true≢false (sym (complete z) ∙ ap₂ same (sym a) (sym b) ∙ e))
  different_names (z ∷ zs) once x y (inl a) (inr n) e = ap (λ w. same (h w) (h y)) a ∙ no_name (h z) y zs once.0 n
  different_names (z ∷ zs) once x y (inr m) (inl b) e = same_swapped (h y) (h x) (ap (λ w. same (h w) (h x)) b ∙ no_name (h z) x zs once.0 m)
  different_names (z ∷ zs) once x y (inr m) (inr n) e = different_names zs once.1 x y m n e

  -- If all names of a list are different, equal names are those of equal values.
  pub names_apart : (xs : List X) → IsDistinct same (map h xs) → (x y : X) → IsIn same xs x → IsIn same xs y → same (h x) (h y) ≡ same x y
  names_apart xs once x y m n = by_test (same x y) refl
    where
      by_test : (t : Bool) → same x y ≡ t → same (h x) (h y) ≡ t
      by_test true e = ap (λ w. same (h w) (h y)) (sound x y e) ∙ complete (h y)
      by_test false e =
          different_names xs once x y (found_member same sound complete x xs m) (found_member same sound complete y xs n) e

  -- ---- lists of such values

  -- the values of M stay different
  module _ (M : X → Type 0) (apart : (x y : X) → M x → M y → same (h x) (h y) ≡ same x y) where
    -- A value stays at its place.
    pub index-renamed : (x : X) (xs : List X) → M x → AllByRecursion M xs → index_in (same (h x)) (map h xs) ≡ index_in (same x) xs
    index-renamed x [] m all = refl
    index-renamed x (y ∷ ys) m all = ap₂ (λ t n. cond t 0 (suc n)) (apart x y m all.0) (index-renamed x ys m all.1)

    -- It has as many uses.
    uses-renamed : (x : X) (xs : List X) → M x → AllByRecursion M xs → uses_of same (map h xs) (h x) ≡ uses_of same xs x
    uses-renamed x [] m all = refl
    uses-renamed x (y ∷ ys) m all =
        sum_by-cons (λ z. cond (same (h x) z) 1 0) (h y) (map h ys)
        ∙ ap₂ (λ t n. cond t 1 0 + n) (apart x y m all.0) (uses-renamed x ys m all.1)
        ∙ sym (sum_by-cons (λ z. cond (same x z) 1 0) y ys)

    filter-renamed : (x : X) (xs : List X) → M x → AllByRecursion M xs
        → filter (λ z. not (same (h x) z)) (map h xs) ≡ map h (filter (λ z. not (same x z)) xs)
    filter-renamed x [] m all = refl
    filter-renamed x (y ∷ ys) m all =
        ap₂ (λ t l. cond (not t) (h y ∷ l) l) (apart x y m all.0) (filter-renamed x ys m all.1) ∙ by_test (same x y)
      where
        rest : List X
        rest = filter (λ z. not (same x z)) ys

        by_test : (t : Bool) → cond (not t) (h y ∷ map h rest) (map h rest) ≡ map h (cond (not t) (y ∷ rest) rest)
        by_test true = refl
        by_test false = refl

    -- The first uses are those of the same values.
    different-renamed : (xs : List X) → AllByRecursion M xs → different same (map h xs) ≡ map h (different same xs)
    different-renamed [] all = refl
    different-renamed (x ∷ xs) all =
        ap (λ l. h x ∷ l)
        (ap (filter (λ z. not (same (h x) z))) (different-renamed xs all.1)
        ∙ filter-renamed x (different same xs) all.0 (all_different same sound complete M xs all.1))

    -- each value has the weight that it had
    module _ (new old : X → ℕ) (agree : (x : X) → M x → new (h x) ≡ old x) where
      insert-renamed : (x : X) (ys : List X) → M x → AllByRecursion M ys → insert_falling same new (h x) (map h ys) ≡ map h (insert_falling same old x ys)
      insert-renamed x [] m all = refl
      insert-renamed x (y ∷ ys) m all =
          ap₂ (λ t l. cond t (h y ∷ l) (h x ∷ h y ∷ map h ys)) (ap₂ nat_lt (agree x m) (agree y all.0)) (insert-renamed x ys m all.1)
          ∙ by_test (nat_lt (old x) (old y))
        where
          by_test : (t : Bool) → cond t (h y ∷ map h (insert_falling same old x ys)) (h x ∷ h y ∷ map h ys)
              ≡ map h (cond t (y ∷ insert_falling same old x ys) (x ∷ y ∷ ys))
          by_test true = refl
          by_test false = refl

      falling-renamed : (xs : List X) → AllByRecursion M xs → falling same new (map h xs) ≡ map h (falling same old xs)
      falling-renamed [] all = refl
      falling-renamed (x ∷ xs) all =
          ap (insert_falling same new (h x)) (falling-renamed xs all.1)
          ∙ insert-renamed x (falling same old xs) all.0 (all_falling same sound complete old (IsEarlier same xs) M xs all.1)

    -- The table has the new names in the old order.
    pub table-renamed : (short : ℕ) (uses : List X) → AllByRecursion M uses → table same short (map h uses) ≡ map h (table same short uses)
    unfolding table
    table-renamed short uses all =
        ap (λ l. cond (nat_le (length l) short) l (falling same (uses_of same (map h uses)) l)) (different-renamed uses all)
        ∙ ap₂ (λ n l. cond (nat_le n short) (map h values) l) (length-map values h)
        (falling-renamed (uses_of same (map h uses)) (uses_of same uses) (λ x m. uses-renamed x uses m all) values (all_different same sound complete M uses all))
        ∙ by_test (nat_le (length values) short)
      where
        values : List X
        values = different same uses

        by_test : (t : Bool) → cond t (map h values) (map h (falling same (uses_of same uses) values)) ≡ map h (cond t values (falling same (uses_of same uses) values))
        by_test true = refl
        by_test false = refl
