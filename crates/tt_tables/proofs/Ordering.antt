-- Values in the order of their first uses, after one more use, and after all uses from a place on are removed.
use Rattle.std.proofs.Common.{◌≡◌, ℕ, zero, suc, ◌<◌, ◌≤◌, ◌⊎◌, inl, inr, Bool, true, false, cond, ◌||◌, List, [], ◌∷◌, ◌++◌, Some, length, take, drop, slice_get, refl, ap, ap₂, sym, subst, ◌∙◌, arith, append_assoc, append-nil}
use Rattle.std.proofs.lemmas.Map.Entries.{length-keys_of}
use Rattle.std.proofs.lemmas.Option.{slice_get_within}
use Rattle.std.specs.Cmp.{IsEquivalence}
use Rattle.std.specs.List.{AllByRecursion, IsDistinct, list_any}
use Rattle.std.specs.Map.{keys_of, values_of}
use Rattle.tt_tables.proofs.UseCounts.{entry_at, number_at}
use Rattle.tt_tables.proofs.Used.{uses-append}
use Rattle.tt_tables.specs.Entries.{with_entry, IsCut}
use Rattle.tt_tables.proofs.Different.{different-snoc, any-different, not_used, is_used}
use Rattle.tt_tables.specs.Counts.{CountsUses}
use Rattle.tt_tables.specs.TableOrder.{different, uses_of}

-- The keys of two lists, one after the other.
pub keys_joined : {X : Type 0} (xs ys : List (X × ℕ)) → keys_of (xs ++ ys) ≡ keys_of xs ++ keys_of ys
keys_joined [] ys = refl
keys_joined (x ∷ xs) ys = ap (λ l. x.0 ∷ l) (keys_joined xs ys)

-- The first n keys.
pub keys_cut : {X : Type 0} (xs : List (X × ℕ)) (n : ℕ) → keys_of (take n xs) ≡ take n (keys_of xs)
keys_cut xs zero = refl
keys_cut [] (suc n) = refl
keys_cut (x ∷ xs) (suc n) = ap (λ l. x.0 ∷ l) (keys_cut xs n)

-- A value at a place of two lists is at a place of the second one, or in the first.
at_seam : {X : Type 0} (xs ys : List X) (i : ℕ) (x : X) → slice_get (xs ++ ys) i ≡ Some x
    → ((i < length xs) × (slice_get xs i ≡ Some x)) ⊎ ((length xs ≤ i) × ((j : ℕ) × (slice_get ys j ≡ Some x)))
at_seam [] ys i x at = inr (omega arith, (i, at))
at_seam (y ∷ xs) ys zero x at = inl (omega arith, at)
at_seam (y ∷ xs) ys (suc i) x at = by_rest (at_seam xs ys i x at)
  where
    by_rest : ((i < length xs) × (slice_get xs i ≡ Some x)) ⊎ ((length xs ≤ i) × ((j : ℕ) × (slice_get ys j ≡ Some x)))
        → ((suc i < length (y ∷ xs)) × (slice_get (y ∷ xs) (suc i) ≡ Some x)) ⊎ ((length (y ∷ xs) ≤ suc i) × ((j : ℕ) × (slice_get ys j ≡ Some x)))
    by_rest (inl h) = inl (omega (arith, h.0), h.1)
    by_rest (inr h) = inr (omega (arith, h.0), h.1)

-- What holds for all items of a list holds for the one at a place.
all_at : {X : Type 0} (P : X → Type 0) (xs : List X) (i : ℕ) (x : X) → AllByRecursion P xs → slice_get xs i ≡ Some x → P x
all_at P [] i x all at = absurd (cc at)
all_at P (y ∷ xs) zero x all at =
    let is : y ≡ x = cc at in
    subst P is all.0
all_at P (y ∷ xs) (suc i) x all at = all_at P xs i x all.1 at

-- A list has an item at each place less than its length.
something_at : {X : Type 0} (xs : List X) (i : ℕ) → i < length xs → (x : X) × (slice_get xs i ≡ Some x)
something_at [] i h = absurd (none h)
  where
    none : i < 0 → ⊥
    none h = omega arith
something_at (x ∷ xs) zero h = (x, refl)
something_at (x ∷ xs) (suc i) h = something_at xs i (omega arith)

-- The item after the dropped ones comes first.
dropped_at : {X : Type 0} (xs : List X) (n : ℕ) (x : X) → slice_get xs n ≡ Some x → slice_get (drop n xs) 0 ≡ Some x
dropped_at [] n x at = absurd (cc at)
dropped_at (y ∷ xs) zero x at = at
dropped_at (y ∷ xs) (suc n) x at = dropped_at xs n x at

-- A list taken to the length of its front is the front.
take_front : {X : Type 0} (xs ys : List X) (n : ℕ) → n ≡ length xs → take n (xs ++ ys) ≡ xs
take_front {X} xs ys n e = ap (λ m. take m (xs ++ ys)) e ∙ whole xs ys
  where
    whole : (xs ys : List X) → take (length xs) (xs ++ ys) ≡ xs
    whole [] ys = refl
    whole (x ∷ xs) ys = ap (λ l. x ∷ l) (whole xs ys)

-- `same` is whether two values are equal
module _ {X : Type 0} (same : X → X → Bool) (laws : IsEquivalence same) (sound : (x y : X) → same x y ≡ true → x ≡ y) where
  -- A search by one side of the test is a search by the other.
  any_turned : (xs : List X) (x : X) → list_any (λ z. same z x) xs ≡ list_any (same x) xs
  any_turned [] x = refl
  any_turned (y ∷ xs) x = ap₂ (λ a b. a || b) (laws.symm y x) (any_turned xs x)

  -- The keys are the old ones, and the value if it is new.
  pub keys_with : (entries : List (X × ℕ)) (x : X) → keys_of (with_entry same entries x) ≡ cond (list_any (same x) (keys_of entries)) (keys_of entries) (keys_of entries ++ x ∷ [])
  keys_with entries x = by_test (list_any (same x) (keys_of entries))
    where
      by_test : (t : Bool) → keys_of (cond t entries (entries ++ (x, 0) ∷ [])) ≡ cond t (keys_of entries) (keys_of entries ++ x ∷ [])
      by_test true = refl
      by_test false = keys_joined entries ((x, 0) ∷ [])

  -- The order after one more use.
  pub in_order_more : (uses : List X) (entries : List (X × ℕ)) (x : X) → keys_of entries ≡ different same uses → keys_of (with_entry same entries x) ≡ different same (uses ++ x ∷ [])
  in_order_more uses entries x order =
      keys_with entries x
      ∙ ap (λ keys. cond (list_any (same x) keys) keys (keys ++ x ∷ [])) order
      ∙ ap (λ t. cond t (different same uses) (different same uses ++ x ∷ [])) (sym (any_turned (different same uses) x))
      ∙ sym (different-snoc same laws uses x)

  -- The different values of two lists are those of the first, and then others.
  pub different-append : (xs ys : List X) → (rest : List X) × (different same (xs ++ ys) ≡ different same xs ++ rest) × AllByRecursion (λ z. uses_of same xs z ≡ 0) rest
  different-append xs [] = ([], ap (different same) (append-nil xs) ∙ sym (append-nil (different same xs)), tt)
  different-append xs (y ∷ ys) =
      let (rest, is, unused) = different-append (xs ++ y ∷ []) ys in
      let whole : different same (xs ++ y ∷ ys) ≡ different same (xs ++ y ∷ []) ++ rest = ap (different same) (sym (append_assoc xs (y ∷ []) ys)) ∙ is in
      by_test (list_any (λ z. same z y) (different same xs)) refl rest whole (fewer rest unused)
    where
      fewer : (rest : List X) → AllByRecursion (λ z. uses_of same (xs ++ y ∷ []) z ≡ 0) rest → AllByRecursion (λ z. uses_of same xs z ≡ 0) rest
      fewer [] all = tt
      fewer (z ∷ rest) all = (omega (arith, all.0, uses-append same xs (y ∷ []) z), fewer rest all.1)

      by_test : (t : Bool) → list_any (λ z. same z y) (different same xs) ≡ t → (rest : List X) → different same (xs ++ y ∷ ys) ≡ different same (xs ++ y ∷ []) ++ rest
          → AllByRecursion (λ z. uses_of same xs z ≡ 0) rest
          → (all : List X) × (different same (xs ++ y ∷ ys) ≡ different same xs ++ all) × AllByRecursion (λ z. uses_of same xs z ≡ 0) all
      by_test true e rest is unused =
          (rest, is ∙ ap (λ l. l ++ rest) (different-snoc same laws xs y ∙ ap (λ t. cond t (different same xs) (different same xs ++ y ∷ [])) e), unused)
      by_test false e rest is unused = (
        y ∷ rest,
        is ∙ ap (λ l. l ++ rest) (different-snoc same laws xs y ∙ ap (λ t. cond t (different same xs) (different same xs ++ y ∷ [])) e) ∙ append_assoc (different same xs) (y ∷ []) rest,
        (not_used same laws xs y (sym (any-different same laws xs y) ∙ e), unused),
      )

  -- A value at a place of a list equals a value of the list.
  found_any : (xs : List X) (i : ℕ) (x : X) → slice_get xs i ≡ Some x → list_any (λ z. same z x) xs ≡ true
  found_any [] i x at = absurd (cc at)
  found_any (y ∷ xs) zero x at =
      let is : y ≡ x = cc at in
      ap (λ t. t || list_any (λ z. same z x) xs) (ap (λ z. same z x) is ∙ laws.refl x)
  found_any (y ∷ xs) (suc i) x at = by_test (same y x) (found_any xs i x at)
    where
      by_test : (t : Bool) → list_any (λ z. same z x) xs ≡ true → (t || list_any (λ z. same z x) xs) ≡ true
      by_test true e = refl
      by_test false e = e

  -- One of the different values has uses.
  pub different_used : (uses : List X) (i : ℕ) (x : X) → slice_get (different same uses) i ≡ Some x → 0 < uses_of same uses x
  different_used uses i x at = is_used same laws uses x (sym (any-different same laws uses x) ∙ found_any (different same uses) i x at)

  -- The number beside a key is its number of uses.
  number_beside : (uses : List X) (entries : List (X × ℕ)) (i : ℕ) (x : X) (n : ℕ) → IsDistinct same (keys_of entries) → CountsUses same uses entries
      → slice_get (keys_of entries) i ≡ Some x → slice_get (values_of entries) i ≡ Some n → n ≡ uses_of same uses x
  number_beside uses entries i x n distinct right at number = sym (number_at same laws entries i x n distinct (entry_at entries i x n at number)) ∙ right x

  -- After the later uses and the last entries without uses are removed, the keys are the different values of the earlier uses.
  pub in_order_cut : (before later : List X) (entries cut : List (X × ℕ)) → IsDistinct same (keys_of entries) → keys_of entries ≡ different same (before ++ later) → CountsUses same before entries
      → IsCut entries cut → keys_of cut ≡ different same before
  in_order_cut before later entries cut distinct order right is =
      let (rest, whole, unused) = different-append before later in
      let keys : keys_of entries ≡ different same before ++ rest = order ∙ whole in
      ap keys_of is.front ∙ keys_cut entries is.len ∙ ap (take is.len) keys
      ∙ take_front (different same before) rest is.len (omega (arith, not_more rest keys unused is.len refl, not_fewer rest keys))
    where
      not_more : (rest : List X) → keys_of entries ≡ different same before ++ rest → AllByRecursion (λ z. uses_of same before z ≡ 0) rest → (n : ℕ) → is.len ≡ n → n ≤ length (different same before)
      not_more rest keys unused zero e = omega arith
      not_more rest keys unused (suc k) e =
          let (number, beside, some) = is.ends_used k e in
          let within : k < length (keys_of entries) = omega (arith, length-keys_of entries, length-values entries, slice_get_within (values_of entries) k number beside) in
          let (x, at) = something_at (keys_of entries) k within in
          let uses : number ≡ uses_of same before x = number_beside before entries k x number distinct right at beside in
          by_side x number uses some (at_seam (different same before) rest k x (ap (λ l. slice_get l k) (sym keys) ∙ at))
        where
          length-values : (entries : List (X × ℕ)) → length (values_of entries) ≡ length entries
          length-values [] = refl
          length-values (entry ∷ entries) = ap suc (length-values entries)

          by_side : (x : X) (number : ℕ) → number ≡ uses_of same before x → 0 < number
              → ((k < length (different same before)) × (slice_get (different same before) k ≡ Some x)) ⊎ ((length (different same before) ≤ k) × ((j : ℕ) × (slice_get rest j ≡ Some x)))
              → suc k ≤ length (different same before)
          by_side x number uses some (inl h) = omega (arith, h.0)
          by_side x number uses some (inr h) = absurd (omega (arith, some, uses, all_at (λ z. uses_of same before z ≡ 0) rest h.1.0 x unused h.1.1))

      not_fewer : (rest : List X) → keys_of entries ≡ different same before ++ rest → length (different same before) ≤ is.len
      not_fewer rest keys = by_order (less_or (length (different same before)) is.len)
        where
          less_or : (a b : ℕ) → (a ≤ b) ⊎ (b < a)
          less_or zero b = inl (omega arith)
          less_or (suc a) zero = inr (omega arith)
          less_or (suc a) (suc b) = next (less_or a b)
            where
              next : (a ≤ b) ⊎ (b < a) → (suc a ≤ suc b) ⊎ (suc b < suc a)
              next (inl h) = inl (omega arith)
              next (inr h) = inr (omega arith)

          by_order : (length (different same before) ≤ is.len) ⊎ (is.len < length (different same before)) → length (different same before) ≤ is.len
          by_order (inl h) = h
          by_order (inr h) =
              let (x, at) = something_at (different same before) is.len h in
              let key : slice_get (keys_of entries) is.len ≡ Some x = ap (λ l. slice_get l is.len) keys ∙ keeps_left (different same before) rest is.len x at in
              let (number, beside) = value_at entries is.len x key in
              let uses : number ≡ uses_of same before x = number_beside before entries is.len x number distinct right key beside in
              let none : number ≡ 0 = all_at (λ n. n ≡ 0) (drop is.len (values_of entries)) 0 number is.unused (dropped_at (values_of entries) is.len number beside) in
              absurd (omega (arith, uses, none, different_used before is.len x at))
            where
              keeps_left : (xs ys : List X) (i : ℕ) (x : X) → slice_get xs i ≡ Some x → slice_get (xs ++ ys) i ≡ Some x
              keeps_left [] ys i x at = absurd (cc at)
              keeps_left (y ∷ xs) ys zero x at = at
              keeps_left (y ∷ xs) ys (suc i) x at = keeps_left xs ys i x at

              value_at : (entries : List (X × ℕ)) (i : ℕ) (x : X) → slice_get (keys_of entries) i ≡ Some x → (n : ℕ) × (slice_get (values_of entries) i ≡ Some n)
              value_at [] i x at = absurd (cc at)
              value_at (entry ∷ entries) zero x at = (entry.1, refl)
              value_at (entry ∷ entries) (suc i) x at = value_at entries i x at
