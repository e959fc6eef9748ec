-- Filters of points: one by the kept lengths, and one by what they mean, which agree.
use Rattle.std.proofs.Common.{◌≡◌, ℕ, zero, suc, ◌-◌, ◌<◌, ◌≤◌, List, [], ◌∷◌, length, take, get_or, Bool, true, false, cond, refl, ap, sym, ◌∙◌, subst, arith, nat_le, ◌⊎◌, inl, inr}
use Rattle.std.proofs.lemmas.Bool.{le-leb}
use Rattle.std.proofs.lemmas.Bool.Decides.{leb_tells}
use Rattle.std.specs.List.{AllByRecursion, filter}
use Rattle.tt.specs.declared.builder.standing.Standing.{Standing}
use Rattle.tt.specs.BuilderFields.{IsEarlier, AreInOrder}

-- What holds for all items holds for those that are left.
pub all_filter : {A : Type 0} (P : A → Type 0) (test : A → Bool) (xs : List A) → AllByRecursion P xs → AllByRecursion P (filter test xs)
all_filter P test [] all = tt
all_filter {A} P test (x ∷ xs) all = by_test (test x) (all_filter P test xs all.1)
  where
    by_test : (b : Bool) → AllByRecursion P (filter test xs) → AllByRecursion P (cond b (x ∷ filter test xs) (filter test xs))
    by_test true more = (all.0, more)
    by_test false more = more

-- Each item that is left passes the test, and what held for it before still holds.
pub all_passed : {A : Type 0} (P Q : A → Type 0) (test : A → Bool) (xs : List A) → ((x : A) → P x → test x ≡ true → Q x)
    → AllByRecursion P xs → AllByRecursion Q (filter test xs)
all_passed P Q test [] gives all = tt
all_passed {A} P Q test (x ∷ xs) gives all = by_test (test x) refl (all_passed P Q test xs gives all.1)
  where
    by_test : (b : Bool) → test x ≡ b → AllByRecursion Q (filter test xs) → AllByRecursion Q (cond b (x ∷ filter test xs) (filter test xs))
    by_test true e more = (gives x all.0 e, more)
    by_test false e more = more

-- They are in the same order.
pub order_filter : (test : Standing → Bool) (xs : List Standing) → AreInOrder xs → AreInOrder (filter test xs)
order_filter test [] order = tt
order_filter test (x ∷ xs) order = by_test (test x) (order_filter test xs order.1)
  where
    by_test : (b : Bool) → AreInOrder (filter test xs) → AreInOrder (cond b (x ∷ filter test xs) (filter test xs))
    by_test true more = (all_filter (IsEarlier x) test xs order.0, more)
    by_test false more = more

-- One bound holds exactly if another does.
pub same_test : (a b m n : ℕ) → (a ≤ m → b ≤ n) → (b ≤ n → a ≤ m) → nat_le a m ≡ nat_le b n
same_test a b m n there back = by_tests (leb_tells a m) (leb_tells b n)
  where
    by_tests : ((nat_le a m ≡ true) × (a ≤ m)) ⊎ ((nat_le a m ≡ false) × (m < a)) → ((nat_le b n ≡ true) × (b ≤ n)) ⊎ ((nat_le b n ≡ false) × (n < b)) → nat_le a m ≡ nat_le b n
    by_tests (inl x) (inl y) = x.0 ∙ sym y.0
    by_tests (inl x) (inr y) = absurd (omega (arith, there x.1, y.1))
    by_tests (inr x) (inl y) = absurd (omega (arith, back y.1, x.1))
    by_tests (inr x) (inr y) = x.0 ∙ sym y.0

-- An item that does not pass adds nothing to the filtered list.
pub filter_shorter : {A : Type 0} (test : A → Bool) (xs : List A) (k : ℕ) (d : A) → k < length xs → test (get_or xs k d) ≡ false
    → filter test (take (suc k) xs) ≡ filter test (take k xs)
filter_shorter test [] k d within fails = absurd (omega (arith, within))
filter_shorter test (x ∷ xs) zero d within fails = ap (λ b. cond b (x ∷ []) []) fails
filter_shorter test (x ∷ xs) (suc k) d within fails =
    ap (λ l. cond (test x) (x ∷ l) l) (filter_shorter test xs k d (omega (arith, within)) fails)

-- what holds for all points holds for the one at k
pub at_place : {A : Type 0} (P : A → Type 0) (xs : List A) (k : ℕ) (d : A) → k < length xs → AllByRecursion P xs → P (get_or xs k d)
at_place P [] k d within all = absurd (omega (arith, within))
at_place P (x ∷ xs) zero d within all = all.0
at_place P (x ∷ xs) (suc k) d within all = at_place P xs k d (omega (arith, within)) all.1

-- A number never falls from a point to a later one, so if one point passes, all before it do.
pub passes_all : (key : Standing → ℕ) (n : ℕ) (rises : (a b : Standing) → IsEarlier a b → key a ≤ key b) (xs : List Standing) (k : ℕ) (d : Standing)
    → AreInOrder xs → k < length xs → key (get_or xs k d) ≤ n → filter (λ p. nat_le (key p) n) (take (suc k) xs) ≡ take (suc k) xs
passes_all key n rises [] k d order within below = absurd (omega (arith, within))
passes_all key n rises (x ∷ xs) zero d order within below = ap (λ b. cond b (x ∷ []) []) (le-leb (key x) n below)
passes_all key n rises (x ∷ xs) (suc k) d order within below =
    let first : key x ≤ n = omega (arith, rises x (get_or xs k d) (at_place (IsEarlier x) xs k d (omega (arith, within)) order.0), below) in
    ap (λ b. cond b (x ∷ filter (λ p. nat_le (key p) n) (take (suc k) xs)) (filter (λ p. nat_le (key p) n) (take (suc k) xs))) (le-leb (key x) n first)
    ∙ ap (λ l. x ∷ l) (passes_all key n rises xs k d order.1 (omega (arith, within)) below)

-- The first points, which pass, are all that pass, if those after them do not.
pub stays : (key : Standing → ℕ) (n : ℕ) (rises : (a b : Standing) → IsEarlier a b → key a ≤ key b) (xs old : List Standing) (k : ℕ) (d : Standing)
    → AreInOrder old → xs ≡ old → 0 < k → k ≤ length xs → d ≡ get_or xs (k - 1) d → key d ≤ n
    → filter (λ p. nat_le (key p) n) (take k xs) ≡ filter (λ p. nat_le (key p) n) xs → take k xs ≡ filter (λ p. nat_le (key p) n) old
stays key n rises xs old zero d order same some within here below rest = absurd (omega (arith, some))
stays key n rises xs old (suc k) d order same some within here below rest =
    let at : d ≡ get_or xs k d = here ∙ ap (λ i. get_or xs i d) (omega arith) in
    let low : key (get_or xs k d) ≤ n = subst (λ x. key x ≤ n) at below in
    sym (passes_all key n rises xs k d (subst AreInOrder (sym same) order) (omega (arith, within)) low) ∙ rest ∙ ap (filter (λ p. nat_le (key p) n)) same
