-- A list of the first few numbers, in order, after one is added.
use Rattle.std.proofs.Common.{◌≡◌, inl, inr, ◌≤◌, ◌<◌, ℕ, suc, zero, Bool, true, false, cond, nat_lt, List, [], ◌∷◌, length, take, Some, refl, subst, ap, ◌∙◌, arith}
use Rattle.std.proofs.lemmas.Bool.{ltb-true, ltb-false}
use Rattle.std.proofs.lemmas.List.{length-take-le}
use Rattle.std.specs.Prelude.{◌⊎◌, slice_get}
use Rattle.std.specs.List.{AllByRecursion, insert}
use Rattle.mbe_grammar.specs.Tried.{rank_among}
use Rattle.mbe_grammar.specs.Trying.{IsOneOf, IsAscending}

abbrev Below : ℕ → List ℕ → Type 0
Below it = AllByRecursion (λ other. other < it)

abbrev Above : ℕ → List ℕ → Type 0
Above it = AllByRecursion (λ other. it < other)

-- the number is one of these, or they are as many as fit and all less
abbrev pub Fits : (room : ℕ) → List ℕ → ℕ → Type 0
Fits room xs it = IsOneOf xs it ⊎ ((length xs ≡ room) × Below it xs)

-- the numbers with one more before the first that is not less
abbrev pub placed : ℕ → List ℕ → List ℕ
placed it [] = it ∷ []
placed it (x ∷ xs) = cond (nat_lt x it) (x ∷ placed it xs) (it ∷ x ∷ xs)

-- The rank is where that is.
pub placed_by : (it : ℕ) (xs : List ℕ) → insert xs (rank_among it xs) it ≡ placed it xs
placed_by it [] = refl
placed_by it (x ∷ xs) = by (nat_lt x it) (placed_by it xs)
  where
    by : (b : Bool) → insert xs (rank_among it xs) it ≡ placed it xs → insert (x ∷ xs) (cond b (suc (rank_among it xs)) 0) it ≡ cond b (x ∷ placed it xs) (it ∷ x ∷ xs)
    by true rest = ap (λ t. x ∷ t) rest
    by false rest = refl

above_all : (a b : ℕ) (xs : List ℕ) → a < b → Above b xs → Above a xs
above_all a b [] less h = tt
above_all a b (x ∷ xs) less h = (omega (arith, less, h.0), above_all a b xs less h.1)

above_one : (a : ℕ) (xs : List ℕ) (it : ℕ) → Above a xs → IsOneOf xs it → a < it
above_one a [] it h k = absurd k
above_one a (x ∷ xs) it h (inl e) = subst (λ n. a < n) e h.0
above_one a (x ∷ xs) it h (inr k) = above_one a xs it h.1 k

above_take : (a n : ℕ) (xs : List ℕ) → Above a xs → Above a (take n xs)
above_take a zero xs h = tt
above_take a (suc n) [] h = tt
above_take a (suc n) (x ∷ xs) h = (h.0, above_take a n xs h.1)

below_take : (a n : ℕ) (xs : List ℕ) → Below a xs → Below a (take n xs)
below_take a zero xs h = tt
below_take a (suc n) [] h = tt
below_take a (suc n) (x ∷ xs) h = (h.0, below_take a n xs h.1)

ascending_take : (n : ℕ) (xs : List ℕ) → IsAscending xs → IsAscending (take n xs)
ascending_take zero xs h = tt
ascending_take (suc n) [] h = tt
ascending_take (suc n) (x ∷ xs) h = (above_take x n xs h.0, ascending_take n xs h.1)

one_of_take : (n : ℕ) (xs : List ℕ) (it : ℕ) → IsOneOf (take n xs) it → IsOneOf xs it
one_of_take zero xs it h = absurd h
one_of_take (suc n) [] it h = absurd h
one_of_take (suc n) (x ∷ xs) it (inl e) = inl e
one_of_take (suc n) (x ∷ xs) it (inr h) = inr (one_of_take n xs it h)

-- One of the numbers fits among the first.
cut : (n : ℕ) (xs : List ℕ) (it : ℕ) → IsAscending xs → IsOneOf xs it → Fits n (take n xs) it
cut zero xs it a h = inr (refl, tt)
cut (suc n) [] it a h = absurd h
cut (suc n) (x ∷ xs) it a (inl e) = inl (inl e)
cut (suc n) (x ∷ xs) it a (inr h) = by (cut n xs it a.1 h)
  where
    by : Fits n (take n xs) it → Fits (suc n) (x ∷ take n xs) it
    by (inl k) = inl (inr k)
    by (inr k) = inr (ap suc k.0, (above_one x xs it a.0 h, k.1))

-- the number is not at its rank
abbrev pub IsNew : ℕ → List ℕ → Type 0
IsNew it xs = slice_get xs (rank_among it xs) ≡ Some it → ⊥

new_behind : (it x : ℕ) (xs : List ℕ) → nat_lt x it ≡ true → IsNew it (x ∷ xs) → IsNew it xs
new_behind it x xs e new k = new (ap (λ b. slice_get (x ∷ xs) (cond b (suc (rank_among it xs)) 0)) e ∙ k)

new_less : (it x : ℕ) (xs : List ℕ) → nat_lt x it ≡ false → IsNew it (x ∷ xs) → it < x
new_less it x xs e new = by (nat_lt it x) refl
  where
    by : (b : Bool) → nat_lt it x ≡ b → it < x
    by true f = ltb-true it x f
    by false f =
        let same : x ≡ it = omega (arith, ltb-false x it e, ltb-false it x f) in
        absurd (new (ap (λ b. slice_get (x ∷ xs) (cond b (suc (rank_among it xs)) 0)) e ∙ ap Some same))

above_placed : (a it : ℕ) (xs : List ℕ) → a < it → Above a xs → Above a (placed it xs)
above_placed a it [] less h = (less, tt)
above_placed a it (x ∷ xs) less h = by (nat_lt x it) (above_placed a it xs less h.1)
  where
    by : (b : Bool) → Above a (placed it xs) → Above a (cond b (x ∷ placed it xs) (it ∷ x ∷ xs))
    by true rest = (h.0, rest)
    by false rest = (less, h)

ascending_placed : (it : ℕ) (xs : List ℕ) → IsNew it xs → IsAscending xs → IsAscending (placed it xs)
ascending_placed it [] new a = (tt, tt)
ascending_placed it (x ∷ xs) new a = by (nat_lt x it) refl (λ still. ascending_placed it xs still a.1)
  where
    by : (b : Bool) → nat_lt x it ≡ b → (IsNew it xs → IsAscending (placed it xs)) → IsAscending (cond b (x ∷ placed it xs) (it ∷ x ∷ xs))
    by true e rest = (above_placed x it xs (ltb-true x it e) a.0, rest (new_behind it x xs e new))
    by false e rest = let less = new_less it x xs e new in ((less, above_all it x xs less a.0), a)

-- The first numbers are still in order.
pub ascending : (n it : ℕ) (xs : List ℕ) → IsNew it xs → IsAscending xs → IsAscending (take n (placed it xs))
ascending n it xs new a = ascending_take n (placed it xs) (ascending_placed it xs new a)

one_of_placed : (it : ℕ) (xs : List ℕ) (one : ℕ) → IsOneOf (placed it xs) one → (it ≡ one) ⊎ IsOneOf xs one
one_of_placed it [] one (inl e) = inl e
one_of_placed it [] one (inr h) = absurd h
one_of_placed it (x ∷ xs) one h = by (nat_lt x it) h (one_of_placed it xs one)
  where
    further : (it ≡ one) ⊎ IsOneOf xs one → (it ≡ one) ⊎ IsOneOf (x ∷ xs) one
    further (inl e) = inl e
    further (inr k) = inr (inr k)

    by : (b : Bool) → IsOneOf (cond b (x ∷ placed it xs) (it ∷ x ∷ xs)) one → (IsOneOf (placed it xs) one → (it ≡ one) ⊎ IsOneOf xs one) → (it ≡ one) ⊎ IsOneOf (x ∷ xs) one
    by true (inl e) rest = inr (inl e)
    by true (inr k) rest = further (rest k)
    by false (inl e) rest = inl e
    by false (inr k) rest = inr k

-- Each of them is the new one or an old one.
pub no_others : (n it : ℕ) (xs : List ℕ) (one : ℕ) → IsOneOf (take n (placed it xs)) one → (it ≡ one) ⊎ IsOneOf xs one
no_others n it xs one h = one_of_placed it xs one (one_of_take n (placed it xs) one h)

-- The new one fits.
pub new_fits : (n it : ℕ) (xs : List ℕ) → Fits n (take n (placed it xs)) it
new_fits zero it xs = inr (refl, tt)
new_fits (suc n) it [] = inl (inl refl)
new_fits (suc n) it (x ∷ xs) = by (nat_lt x it) refl (new_fits n it xs)
  where
    by : (b : Bool) → nat_lt x it ≡ b → Fits n (take n (placed it xs)) it → Fits (suc n) (take (suc n) (cond b (x ∷ placed it xs) (it ∷ x ∷ xs))) it
    by true e (inl k) = inl (inr k)
    by true e (inr k) = inr (ap suc k.0, (ltb-true x it e, k.1))
    by false e rest = inl (inl refl)

one_placed : (it : ℕ) (xs : List ℕ) (one : ℕ) → IsOneOf xs one → IsOneOf (placed it xs) one
one_placed it [] one h = absurd h
one_placed it (x ∷ xs) one h = by (nat_lt x it) h (one_placed it xs one)
  where
    by : (b : Bool) → IsOneOf (x ∷ xs) one → (IsOneOf xs one → IsOneOf (placed it xs) one) → IsOneOf (cond b (x ∷ placed it xs) (it ∷ x ∷ xs)) one
    by true (inl e) rest = inl e
    by true (inr k) rest = inr (rest k)
    by false k rest = inr k

full_fits : (n it : ℕ) (xs : List ℕ) (one : ℕ) → length xs ≡ n → Below one xs → Fits n (take n (placed it xs)) one
full_fits zero it xs one e h = inr (refl, tt)
full_fits (suc n) it [] one e h = absurd (cc e)
full_fits (suc n) it (x ∷ xs) one e h = by (nat_lt x it) refl (full_fits n it xs one (omega (arith, e)) h.1)
  where
    by : (b : Bool) → nat_lt x it ≡ b → Fits n (take n (placed it xs)) one → Fits (suc n) (take (suc n) (cond b (x ∷ placed it xs) (it ∷ x ∷ xs))) one
    by true f (inl k) = inl (inr k)
    by true f (inr k) = inr (ap suc k.0, (h.0, k.1))
    by false f rest =
        let some : n ≤ length (x ∷ xs) = omega (arith, e) in
        inr (ap suc (length-take-le n (x ∷ xs) some), (omega (arith, ltb-false x it f, h.0), below_take one n (x ∷ xs) h))

-- What fitted still fits.
pub still_fits : (n it : ℕ) (xs : List ℕ) (one : ℕ) → IsNew it xs → IsAscending xs → Fits n xs one → Fits n (take n (placed it xs)) one
still_fits n it xs one new a (inl h) = cut n (placed it xs) one (ascending_placed it xs new a) (one_placed it xs one h)
still_fits n it xs one new a (inr h) = full_fits n it xs one h.0 h.1

-- There is some number.
pub some_placed : (n it : ℕ) (xs : List ℕ) → take (suc n) (placed it xs) ≡ [] → ⊥
some_placed n it [] e = absurd (cc e)
some_placed n it (x ∷ xs) e = by (nat_lt x it) e
  where
    by : (b : Bool) → take (suc n) (cond b (x ∷ placed it xs) (it ∷ x ∷ xs)) ≡ [] → ⊥
    by true f = absurd (cc f)
    by false f = absurd (cc f)

-- A number at its rank is one of them.
pub old_one : (it : ℕ) (xs : List ℕ) (k : ℕ) → slice_get xs k ≡ Some it → IsOneOf xs it
old_one it [] k e = absurd (cc e)
old_one it (x ∷ xs) zero e = inl (cc e)
old_one it (x ∷ xs) (suc k) e = inr (old_one it xs k e)
