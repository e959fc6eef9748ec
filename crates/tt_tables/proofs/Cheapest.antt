-- No order of the used values costs less than their table.
use Rattle.std.proofs.Common.{◌≡◌, ℕ, suc, ◌+◌, ◌*◌, ◌-◌, ◌/◌, ◌%◌, ◌^◌, ◌<◌, ◌≤◌, bytes_eq, w16, Bool, true, false, not, cond, ◌⊎◌, inl, inr, List, [], ◌∷◌, length, filter, nat_lt, nat_le, refl, ap, sym, subst, ◌∙◌, add-zero, zero-add, arith}
use Rattle.std.specs.Int.{to_le_bytes}
use Rattle.std.specs.List.{AllByRecursion, IsDistinct, sum_by}
use Rattle.std.proofs.lemmas.List.Sums.{sum_by-cons}
use Rattle.std.proofs.lemmas.Bool.{true≢false, ltb-true, ltb-false, leb-true, leb-false}
use Rattle.tt_tables.specs.Cost.{weight, cost, cost_from, IsOrderOf, IsCheapest}
use Rattle.tt_base.specs.declared.token_tree.TokenTree.{TokenTree}
use Rattle.tt_base.specs.Forest.{Root, flat}
use Rattle.tt_codec.specs.Reference.{reference_bytes}
use Rattle.tt_tables.specs.Stored.{packed}
use Rattle.tt_tables.specs.TableOrder.{IsMoreUsed, Before, IsInOrder, IsIn, IsTable, index_in, uses_of}
use Rattle.tt_tables.specs.Tables.{symbol_table}
use Rattle.tt_tables.specs.Uses.{symbol_uses}
use Rattle.tt_tables.proofs.Members.{Member}
use Rattle.tt_tables.proofs.TableOrder.{all_filter, order_map}
use Rattle.tt_tables.proofs.TableUnique.{member_all, found_member}
use Rattle.tt_tables.proofs.TokenTables.{text_sound, text_complete, symbol_table_is}

-- A later index weighs no less.
weight_grows : (index : ℕ) → weight index ≤ weight (suc index)
weight_grows index = by_tests (nat_lt index 64) refl (nat_lt index 8192) refl (nat_lt (suc index) 64) refl (nat_lt (suc index) 8192) refl
  where
    by_tests : (a : Bool) → nat_lt index 64 ≡ a → (b : Bool) → nat_lt index 8192 ≡ b
        → (c : Bool) → nat_lt (suc index) 64 ≡ c → (d : Bool) → nat_lt (suc index) 8192 ≡ d
        → cond a 1 (cond b 2 4) ≤ cond c 1 (cond d 2 4)
    by_tests true e b f true g d h = omega arith
    by_tests true e b f false g true h = omega arith
    by_tests true e b f false g false h = omega arith
    by_tests false e b f true g d h = omega (arith, ltb-false _ _ e, ltb-true _ _ g)
    by_tests false e true f false g true h = omega arith
    by_tests false e true f false g false h = omega arith
    by_tests false e false f false g true h = omega (arith, ltb-false _ _ f, ltb-true _ _ h)
    by_tests false e false f false g false h = omega arith

-- The first indices weigh one.
weight_first : (index : ℕ) → index < 64 → weight index ≡ 1
weight_first index few = by_test (nat_lt index 64) refl
  where
    one : ℕ
    one = 1

    by_test : (a : Bool) → nat_lt index 64 ≡ a → cond a one (cond (nat_lt index 8192) 2 4) ≡ one
    by_test true e = refl
    by_test false e = omega (arith, ltb-false _ _ e)

-- A sum of two products is not larger with the larger factor beside the smaller one.
exchange : (a b less more : ℕ) → a ≤ b → less ≤ more → a * more + b * less ≤ a * less + b * more
exchange a b less more h k =
    subst (λ n. a * n + b * less ≤ a * less + b * n) rest
    (subst (λ n. a * (less + (more - less)) + n * less ≤ a * less + n * (less + (more - less))) step (multiplied a (b - a) less (more - less)))
  where
    rest : less + (more - less) ≡ more
    rest = omega (arith, k)

    step : a + (b - a) ≡ b
    step = omega (arith, h)

    multiplied : (p d q e : ℕ) → p * (q + e) + (p + d) * q ≤ p * q + (p + d) * (q + e)
    multiplied p d q e = omega arith

-- `same` is whether two values are equal
module _ {X : Type 0} (same : X → X → Bool) (sound : (x y : X) → same x y ≡ true → x ≡ y) (complete : (x : X) → same x x ≡ true) where
  -- ---- a list without one of its values

  -- the values that are not x
  abbrev without : X → List X → List X
  without x ys = filter (λ y. not (same x y)) ys

  -- A list that does not have x stays.
  without_none : (x : X) (ys : List X) → AllByRecursion (λ y. same x y ≡ false) ys → without x ys ≡ ys
  without_none x [] h = refl
  without_none x (y ∷ ys) h = ap (λ t. cond (not t) (y ∷ without x ys) (without x ys)) h.0 ∙ ap (λ zs. y ∷ zs) (without_none x ys h.1)

  -- A list of different values loses only x.
  without_first : (x y : X) (ys : List X) → same x y ≡ true → AllByRecursion (λ z. same y z ≡ false) ys → without x (y ∷ ys) ≡ ys
  without_first x y ys e h =
      ap (λ t. cond (not t) (y ∷ without x ys) (without x ys)) e
      ∙ without_none x ys (subst (λ v. AllByRecursion (λ z. same v z ≡ false) ys) (sym (sound x y e)) h)

  without_later : (x y : X) (ys : List X) → same x y ≡ false → without x (y ∷ ys) ≡ y ∷ without x ys
  without_later x y ys e = ap (λ t. cond (not t) (y ∷ without x ys) (without x ys)) e

  distinct_without : (x : X) (ys : List X) → IsDistinct same ys → IsDistinct same (without x ys)
  unfolding IsDistinct
  distinct_without x [] h = tt
  distinct_without x (y ∷ ys) h = by_test (same x y) (distinct_without x ys h.1)
    where
      by_test : (t : Bool) → IsDistinct same (without x ys) → IsDistinct same (cond (not t) (y ∷ without x ys) (without x ys))
      by_test true later = later
      by_test false later = (all_filter (λ z. same y z ≡ false) (λ z. same y z ≡ false) (λ z. not (same x z)) ys (λ z n p. p) h.0, later)

  member_without : (x z : X) (ys : List X) → Member z ys → same x z ≡ false → Member z (without x ys)
  member_without x z [] m n = m
  member_without x z (y ∷ ys) m n = by_test (same x y) refl m (λ k. member_without x z ys k n)
    where
      by_test : (t : Bool) → same x y ≡ t → (z ≡ y) ⊎ Member z ys → (Member z ys → Member z (without x ys))
          → Member z (cond (not t) (y ∷ without x ys) (without x ys))
      by_test true e (inl f) later = absurd (true≢false (sym (ap (same x) f ∙ e) ∙ n))
      by_test true e (inr k) later = later k
      by_test false e (inl f) later = inl f
      by_test false e (inr k) later = inr (later k)

  without_member : (x z : X) (ys : List X) → Member z (without x ys) → Member z ys × (same x z ≡ false)
  without_member x z [] m = absurd m
  without_member x z (y ∷ ys) m = by_test (same x y) refl m (without_member x z ys)
    where
      further : Member z ys × (same x z ≡ false) → ((z ≡ y) ⊎ Member z ys) × (same x z ≡ false)
      further k = (inr k.0, k.1)

      by_test : (t : Bool) → same x y ≡ t → Member z (cond (not t) (y ∷ without x ys) (without x ys))
          → (Member z (without x ys) → Member z ys × (same x z ≡ false)) → ((z ≡ y) ⊎ Member z ys) × (same x z ≡ false)
      by_test true e k later = further (later k)
      by_test false e (inl f) later = (inl f, ap (same x) f ∙ e)
      by_test false e (inr k) later = further (later k)

  -- ---- lists of the same different values

  -- the two lists have the same values
  pub record HoldSame (xs ys : List X) : Type 0 where
    pub there : (z : X) → Member z xs → Member z ys
    pub back : (z : X) → Member z ys → Member z xs

  -- x is none of the values after it
  apart : (x z : X) (xs : List X) → AllByRecursion (λ y. same x y ≡ false) xs → Member z xs → same x z ≡ false
  apart x z xs h m = member_all (λ y. same x y ≡ false) xs h z m

  rest_same : (x : X) (xs ys : List X) → IsDistinct same (x ∷ xs) → HoldSame (x ∷ xs) ys → HoldSame xs (without x ys)
  unfolding IsDistinct
  rest_same x xs ys h k =
      record {
        there = λ z m. member_without x z ys (k.there z (inr m)) (apart x z xs h.0 m);
        back = λ z m. other z (without_member x z ys m);
      }
    where
      not_first : (z : X) → (z ≡ x) ⊎ Member z xs → same x z ≡ false → Member z xs
      not_first z (inl e) n = absurd (true≢false (sym (ap (same x) e ∙ complete x) ∙ n))
      not_first z (inr m) n = m

      other : (z : X) → Member z ys × (same x z ≡ false) → Member z xs
      other z m = not_first z (k.back z m.0) m.1

  length-without : (x : X) (ys : List X) → IsDistinct same ys → Member x ys → suc (length (without x ys)) ≡ length ys
  unfolding IsDistinct
  length-without x [] h m = absurd m
  length-without x (y ∷ ys) h m = by_test (same x y) refl m (length-without x ys h.1)
    where
      by_test : (t : Bool) → same x y ≡ t → (x ≡ y) ⊎ Member x ys → (Member x ys → suc (length (without x ys)) ≡ length ys)
          → suc (length (without x (y ∷ ys))) ≡ suc (length ys)
      by_test true e k later = ap (λ zs. suc (length zs)) (without_first x y ys e h.0)
      by_test false e (inl f) later = absurd (true≢false (sym (ap (same x) (sym f) ∙ complete x) ∙ e))
      by_test false e (inr k) later = ap (λ zs. suc (length zs)) (without_later x y ys e) ∙ ap suc (later k)

  pub length-same : (xs ys : List X) → IsDistinct same xs → IsDistinct same ys → HoldSame xs ys → length xs ≡ length ys
  unfolding IsDistinct
  length-same [] [] h k s = refl
  length-same [] (y ∷ ys) h k s = absurd (s.back y (inl refl))
  length-same (x ∷ xs) ys h k s =
      ap suc (length-same xs (without x ys) h.1 (distinct_without x ys k) (rest_same x xs ys h s))
      ∙ length-without x ys k (s.there x (inl refl))

  -- ---- costs

  module _ (uses : List X) (indices : ℕ) where
    -- At two neighbouring indices, the cost is not larger with x before y.
    abbrev GoesFirst : X → X → Type 0
    GoesFirst x y = (index : ℕ) → suc index < indices
        → weight index * uses_of same uses x + weight (suc index) * uses_of same uses y
        ≤ weight index * uses_of same uses y + weight (suc index) * uses_of same uses x

    -- The cost is not larger with x first, if x is before all others in the order of the table.
    to_front : (index : ℕ) (x : X) (ys : List X) → index + length ys ≤ indices → IsDistinct same ys → Member x ys
        → ((y : X) → Member y ys → same x y ≡ false → GoesFirst x y)
        → weight index * uses_of same uses x + cost_from same (suc index) uses (without x ys) ≤ cost_from same index uses ys
    unfolding IsDistinct
    to_front index x [] few h m first = absurd m
    to_front index x (y ∷ ys) few h m first =
        by_test (same x y) refl m (λ k. to_front (suc index) x ys (omega (arith, few)) h.1 k (λ z n. first z (inr n)))
      where
        by_test : (t : Bool) → same x y ≡ t → (x ≡ y) ⊎ Member x ys
            → (Member x ys
            → weight (suc index) * uses_of same uses x + cost_from same (suc (suc index)) uses (without x ys) ≤ cost_from same (suc index) uses ys)
            → weight index * uses_of same uses x + cost_from same (suc index) uses (without x (y ∷ ys))
            ≤ weight index * uses_of same uses y + cost_from same (suc index) uses ys
        by_test true e k later =
            omega (
              arith,
              ap (λ z. weight index * uses_of same uses z) (sound x y e),
              ap (cost_from same (suc index) uses) (without_first x y ys e h.0),
            )
        by_test false e (inl f) later = absurd (true≢false (sym (ap (same x) (sym f) ∙ complete x) ∙ e))
        by_test false e (inr k) later =
            omega (
              arith,
              first y (inl refl) e index room,
              later k,
              ap (cost_from same (suc index) uses) (without_later x y ys e),
            )
          where
            room : suc index < indices
            room = omega (arith, few, length-without x ys h.1 k)

    -- A list in which each value is before all that follow costs no more than another list of the same values.
    cheapest_in_order : (index : ℕ) (xs ys : List X) → index + length xs ≤ indices → IsInOrder same GoesFirst xs
        → IsDistinct same xs → IsDistinct same ys → HoldSame xs ys → cost_from same index uses xs ≤ cost_from same index uses ys
    unfolding IsDistinct
    cheapest_in_order index [] ys few first h k s = omega arith
    cheapest_in_order index (x ∷ xs) ys few first h k s =
        omega (
          arith,
          to_front index x ys (omega (arith, few, length-same (x ∷ xs) ys h k s)) k (s.there x (inl refl)) (λ y m n. goes y n (s.back y m)),
          cheapest_in_order (suc index) xs (without x ys) (omega (arith, few)) first.1 h.1 (distinct_without x ys k) (rest_same x xs ys h s),
        )
      where
        goes : (y : X) → same x y ≡ false → (y ≡ x) ⊎ Member y xs → GoesFirst x y
        goes y n (inl e) = absurd (true≢false (sym (ap (same x) e ∙ complete x) ∙ n))
        goes y n (inr m) = member_all (GoesFirst x) xs first.0 y m

  -- ---- the bytes of all references

  same_no_back : (x y : X) → same x y ≡ false → same y x ≡ false
  same_no_back x y e = by_test (same y x) refl
    where
      by_test : (t : Bool) → same y x ≡ t → t ≡ false
      by_test true f = absurd (true≢false (sym (ap (same x) (sound y x f) ∙ complete x) ∙ e))
      by_test false f = refl

  -- A further use of a value counts for that value, and for no other.
  uses_further : (x : X) (uses : List X) (y : X) → uses_of same (x ∷ uses) y ≡ cond (same y x) 1 0 + uses_of same uses y
  uses_further x uses y = sum_by-cons (λ z. cond (same y z) 1 0) x uses

  -- The use adds nothing to the cost of an order without the value.
  cost_stays : (index : ℕ) (x : X) (uses order : List X) → AllByRecursion (λ y. same x y ≡ false) order
      → cost_from same index (x ∷ uses) order ≡ cost_from same index uses order
  cost_stays index x uses [] h = refl
  cost_stays index x uses (y ∷ order) h =
      ap (λ n. weight index * n + cost_from same (suc index) (x ∷ uses) order) count
      ∙ ap (λ n. weight index * uses_of same uses y + n) (cost_stays (suc index) x uses order h.1)
    where
      count : uses_of same (x ∷ uses) y ≡ uses_of same uses y
      count = uses_further x uses y ∙ ap (λ t. cond t 1 0 + uses_of same uses y) (same_no_back x y h.0) ∙ omega arith

  -- The use adds the weight of the value's index to the cost.
  cost_grows : (index : ℕ) (x : X) (uses order : List X) → IsDistinct same order → IsIn same order x
      → cost_from same index (x ∷ uses) order ≡ weight (index + index_in (same x) order) + cost_from same index uses order
  unfolding IsDistinct
  cost_grows index x uses [] h m = absurd (omega (arith, m))
  cost_grows index x uses (y ∷ order) h m = by_test (same x y) refl m (cost_grows (suc index) x uses order h.1)
    where
      here : ℕ
      here = index_in (same x) order

      by_test : (t : Bool) → same x y ≡ t → cond t 0 (suc here) < suc (length order)
          → (here < length order → cost_from same (suc index) (x ∷ uses) order ≡ weight (suc index + here) + cost_from same (suc index) uses order)
          → weight index * uses_of same (x ∷ uses) y + cost_from same (suc index) (x ∷ uses) order
          ≡ weight (index + cond t 0 (suc here)) + (weight index * uses_of same uses y + cost_from same (suc index) uses order)
      by_test true e k later =
          omega (
            arith,
            ap (λ n. weight index * n) (uses_further x uses y ∙ ap (λ t. cond t 1 0 + uses_of same uses y) (ap (λ z. same z x) (sym (sound x y e)) ∙ complete x)),
            cost_stays (suc index) x uses order (subst (λ z. AllByRecursion (λ v. same z v ≡ false) order) (sym (sound x y e)) h.0),
            ap weight (add-zero index),
          )
      by_test false e k later =
          omega (
            arith,
            ap (λ n. weight index * n) (uses_further x uses y ∙ ap (λ t. cond t 1 0 + uses_of same uses y) (same_no_back x y e)),
            later (omega (arith, k)),
            ap weight (let moved : index + suc here ≡ suc index + here = omega arith in moved),
          )

  cost_none : (index : ℕ) (order : List X) → cost_from same index [] order ≡ 0
  cost_none index [] = refl
  cost_none index (y ∷ order) = omega (arith, cost_none (suc index) order)

  -- The cost of an order is the sum of the weights of the references of all uses.
  pub cost_of_uses : (uses order : List X) → AllByRecursion (IsIn same order) uses → IsDistinct same order
      → sum_by (λ x. weight (index_in (same x) order)) uses ≡ cost same uses order
  cost_of_uses [] order h once = sym (cost_none 0 order)
  cost_of_uses (x ∷ uses) order h once =
      omega (
        arith,
        sum_by-cons (λ z. weight (index_in (same z) order)) x uses,
        cost_of_uses uses order h.1 once,
        cost_grows 0 x uses order once h.0,
        ap weight (zero-add (index_in (same x) order)),
      )

  -- ---- the table

  -- Values in order are different, if no value is before itself.
  pub distinct_order : (B : X → X → Type 0) → ((x : X) → B x x → ⊥) → (xs : List X) → IsInOrder same B xs → IsDistinct same xs
  unfolding IsDistinct
  distinct_order B none [] h = tt
  distinct_order B none (x ∷ xs) h = (all_apart xs h.0, distinct_order B none xs h.1)
    where
      all_apart : (ys : List X) → AllByRecursion (B x) ys → AllByRecursion (λ y. same x y ≡ false) ys
      all_apart [] k = tt
      all_apart (y ∷ ys) k = (by_test (same x y) refl, all_apart ys k.1)
        where
          by_test : (t : Bool) → same x y ≡ t → t ≡ false
          by_test true e = absurd (none x (subst (B x) (sym (sound x y e)) k.0))
          by_test false e = refl

  -- No value is before itself.
  pub not_before : (short count : ℕ) (uses : List X) (x : X) → Before same short count uses x x → ⊥
  not_before short count uses x h = by_length (nat_le count short) refl
    where
      more : IsMoreUsed same uses x x → ⊥
      more (inl k) = omega (arith, k)
      more (inr k) = omega (arith, k.1)

      by_length : (few : Bool) → nat_le count short ≡ few → ⊥
      by_length true e = omega (arith, h.0 (leb-true _ _ e))
      by_length false e = more (h.1 (leb-false _ _ e))

  -- A value that is before another in a table goes first.
  before_goes_first : (count : ℕ) (uses : List X) (x y : X) → Before same 63 count uses x y → GoesFirst uses count x y
  before_goes_first count uses x y h index room = by_length (nat_le count 63) refl
    where
      no_less : IsMoreUsed same uses x y → uses_of same uses y ≤ uses_of same uses x
      no_less (inl k) = omega (arith, k)
      no_less (inr k) = omega (arith, k.0)

      by_length : (few : Bool) → nat_le count 63 ≡ few
          → weight index * uses_of same uses x + weight (suc index) * uses_of same uses y
          ≤ weight index * uses_of same uses y + weight (suc index) * uses_of same uses x
      by_length true e =
          let here : weight index ≡ 1 = weight_first index (omega (arith, room, leb-true _ _ e)) in
          let next : weight (suc index) ≡ 1 = weight_first (suc index) (omega (arith, room, leb-true _ _ e)) in
          rw (here, next) (omega arith)
      by_length false e = exchange (weight index) (weight (suc index)) (uses_of same uses y) (uses_of same uses x) (weight_grows index) (no_less (h.1 (leb-false _ _ e)))

  -- A table is an order of the used values.
  table_order : (uses table : List X) → IsTable same 63 uses table → IsOrderOf same uses table
  table_order uses table is =
      record {
        has_all = is.has_all;
        has_no_other = is.has_no_other;
        once = distinct_order (Before same 63 (length table) uses) (not_before 63 (length table) uses) table is.in_order;
      }

  -- Two orders of the same uses have the same values.
  orders_same : (uses xs ys : List X) → IsOrderOf same uses xs → IsOrderOf same uses ys → HoldSame xs ys
  orders_same uses xs ys h k =
      record { there = λ z m. carried xs ys h.has_no_other k.has_all z m; back = λ z m. carried ys xs k.has_no_other h.has_all z m }
    where
      carried : (one two : List X) → AllByRecursion (IsIn same uses) one → AllByRecursion (IsIn same two) uses → (z : X) → Member z one → Member z two
      carried one two h k z m =
          found_member same sound complete z two
          (member_all (IsIn same two) uses k z (found_member same sound complete z uses (member_all (IsIn same uses) one h z m)))

  -- No order costs less than the table.
  pub table_cheapest : (uses table : List X) → IsTable same 63 uses table → IsCheapest same uses table
  table_cheapest uses table is = (order, least)
    where
      order : IsOrderOf same uses table
      order = table_order uses table is

      goes_first : IsInOrder same (GoesFirst uses (length table)) table
      goes_first =
          order_map same sound complete (GoesFirst uses (length table)) (Before same 63 (length table) uses) table (before_goes_first (length table) uses) is.in_order

      least : (other : List X) → IsOrderOf same uses other → cost same uses table ≤ cost same uses other
      least other k =
          cheapest_in_order uses (length table) 0 table other (omega arith) goes_first order.once k.once (orders_same uses table other order k)

-- A reference takes as many bytes as its index weighs.
pub reference_weight : (index tag : ℕ) → length (reference_bytes index tag) ≡ weight index
unfolding reference_bytes
reference_weight index tag = by_tests (nat_lt index 64) (nat_lt index 8192)
  where
    by_tests : (a b : Bool)
        → length (cond a ((index * 4 + tag) ∷ []) (cond b ((index % 64 * 4 + 2 + tag) ∷ (index / 64 * 2) ∷ []) ((index % 64 * 4 + 2 + tag) ∷ (index / 64 % 128 * 2 + 1) ∷ to_le_bytes w16 (index / 2 ^ 13))))
        ≡ cond a 1 (cond b 2 4)
    by_tests true b = refl
    by_tests false true = refl
    by_tests false false = refl

-- No order of the symbols that tokens use costs less than their table.
pub symbol_table_cheapest : (tokens : List TokenTree) → IsCheapest bytes_eq (symbol_uses tokens) (symbol_table tokens)
symbol_table_cheapest tokens = table_cheapest bytes_eq text_sound text_complete (symbol_uses tokens) (symbol_table tokens) (symbol_table_is tokens)

-- No order of the symbols of a stored tree costs less than the one that is stored.
pub stored_cheapest : (root : Root) → IsCheapest bytes_eq (symbol_uses (flat root.children)) (packed root).symbols
unfolding packed
stored_cheapest root = symbol_table_cheapest (flat root.children)
