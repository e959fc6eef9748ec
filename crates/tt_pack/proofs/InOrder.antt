-- Places that are used for the first time in the order 0, 1, and so on.
use Rattle.std.proofs.Common.{◌≡◌, ℕ, zero, suc, ◌+◌, ◌<◌, ◌≤◌, Bool, true, false, ◌||◌, if◌then◌else◌, Option, None, Some, List, [], ◌∷◌, ◌++◌, fold, flat_map, length, take, drop, nat_eq, slice_get, refl, ap, sym, subst, ◌∙◌, append_assoc, length-append, true≢false, arith}
use Rattle.std.proofs.lemmas.Bool.{ne_eqb, eqb-true}
use Rattle.std.proofs.lemmas.Cmp.{nat_eq_equiv}
use Rattle.std.proofs.lemmas.Grind.{flat_map-append}
use Rattle.std.proofs.lemmas.List.{take-append-drop}
use Rattle.std.proofs.lemmas.List.FromFn.{length-range_with_len}
use Rattle.std.specs.Bool.{OnTrue}
use Rattle.std.specs.List.{AllZip, list_any, range_with_len}
use Rattle.tt_tables.specs.declared.token.InternedToken.{InternedToken}
use Rattle.tt_tables.specs.TableOrder.{different}
use Rattle.tt_pack.specs.Counted.{note_value}
use Rattle.tt_pack.specs.Places.{token_places, places_from, part_places, IsAt, HasOutOfTurn}
use Rattle.tt_pack.proofs.Noting.{different_more, stays_noted}
use Rattle.tt_pack.proofs.Ranks.{all_met}
use Rattle.tt_pack.proofs.RowOrder.{slice_get-snoc}

-- A place in the range is in the list.
is_there : (start n place : ℕ) → start ≤ place → place < start + n → list_any (λ other. nat_eq other place) (range_with_len start n) ≡ true
is_there start zero place from within = absurd (omega (arith, from, within))
is_there start (suc n) place from within =
    let next : start + 1 ≡ suc start = omega arith in
    by_test (nat_eq start place) refl (λ apart. is_there (start + 1) n place (omega (arith, from, apart, next)) (omega (arith, within, next)))
  where
    by_test : (t : Bool) → nat_eq start place ≡ t → ((start ≡ place → ⊥) → list_any (λ other. nat_eq other place) (range_with_len (start + 1) n) ≡ true)
        → (t || list_any (λ other. nat_eq other place) (range_with_len (start + 1) n)) ≡ true
    by_test true e later = refl
    by_test false e later = later (λ is. absurd (true≢false (sym (ap (λ p. nat_eq start p) (sym is) ∙ nat_eq_equiv.refl start) ∙ e)))

-- A place after the range is not.
is_behind : (start n place : ℕ) → start + n ≤ place → list_any (λ other. nat_eq other place) (range_with_len start n) ≡ false
is_behind start zero place past = refl
is_behind start (suc n) place past = ap (λ t. t || list_any (λ other. nat_eq other place) (range_with_len (start + 1) n)) apart ∙ is_behind (start + 1) n place (omega (arith, past))
  where
    apart : nat_eq start place ≡ false
    apart = ne_eqb start place (λ is. omega (arith, past, is))

-- The next place comes after the range.
one_behind : (start n : ℕ) → range_with_len start n ++ (start + n) ∷ [] ≡ range_with_len start (suc n)
one_behind start zero =
    let same : start + 0 ≡ start = omega arith in
    ap (λ place. place ∷ []) same
one_behind start (suc n) =
    let same : start + suc n ≡ start + 1 + n = omega arith in
    ap (λ place. start ∷ range_with_len (start + 1) n ++ place ∷ []) same ∙ ap (λ places. start ∷ places) (one_behind (start + 1) n)

-- A place that was used before changes nothing.
pub noted_again : (met place : ℕ) → place < met → note_value nat_eq (range_with_len 0 met) place ≡ range_with_len 0 met
noted_again met place within =
    ap (λ t. if t then range_with_len 0 met else range_with_len 0 met ++ place ∷ []) (is_there 0 met place (omega arith) (omega (arith, within)))

-- The next place comes after the others.
pub noted_next : (met place : ℕ) → place ≡ met → note_value nat_eq (range_with_len 0 met) place ≡ range_with_len 0 (place + 1)
noted_next met place is =
    let same : 0 + met ≡ place = omega (arith, is) in
    let next : suc met ≡ place + 1 = omega (arith, is) in
    ap (λ t. if t then range_with_len 0 met else range_with_len 0 met ++ place ∷ []) (is_behind 0 met place (omega (arith, is)))
    ∙ ap (λ p. range_with_len 0 met ++ p ∷ []) (sym same)
    ∙ one_behind 0 met
    ∙ ap (range_with_len 0) next

-- ---- out of order

-- A place after the next one is out of order.
pub noted_early : (met place : ℕ) → met < place → HasOutOfTurn (note_value nat_eq (range_with_len 0 met) place)
noted_early met place past = record {
  index = met;
  place = place;
  at =
      ap (λ t. slice_get (if t then range_with_len 0 met else range_with_len 0 met ++ place ∷ []) met) (is_behind 0 met place (omega (arith, past)))
      ∙ ap (slice_get (range_with_len 0 met ++ place ∷ [])) (sym (length-range_with_len 0 met)) ∙ slice_get-snoc (range_with_len 0 met) place;
  other = λ is. omega (arith, is, past);
}

-- It stays out of order after more uses.
pub stays_early : (places more : List ℕ) → HasOutOfTurn places → HasOutOfTurn (fold (note_value nat_eq) places more)
stays_early places [] early = early
stays_early places (x ∷ more) early =
    stays_early (note_value nat_eq places x) more (record { index = early.index; place = early.place; at = stays_noted nat_eq places x early.index early.place early.at; other = early.other })

-- The places of a token are out of order, if its first place is.
pub early_places : (places : List ℕ) (first : ℕ) (second : Option ℕ) → HasOutOfTurn (note_value nat_eq places first) → HasOutOfTurn (fold (note_value nat_eq) places (places_from first second))
early_places places first None early = early
early_places places first (Some second) early = stays_early (note_value nat_eq places first) (second ∷ []) early

-- All places are out of order, if those of the first tokens are.
pub all_early : (tokens : List InternedToken) (index : ℕ) → HasOutOfTurn (different nat_eq (part_places (take index tokens))) → HasOutOfTurn (different nat_eq (part_places tokens))
all_early tokens index early =
    subst HasOutOfTurn
    (different_more nat_eq nat_eq_equiv (part_places (take index tokens)) (part_places (drop index tokens))
    ∙ ap (different nat_eq) (sym (flat_map-append token_places (take index tokens) (drop index tokens)) ∙ ap (flat_map token_places) (take-append-drop index tokens)))
    (stays_early (different nat_eq (part_places (take index tokens))) (part_places (drop index tokens)) early)

-- ---- in order

-- If all places were used, there are as many as different ones.
pub as_many_met : (tokens : List InternedToken) (met used : ℕ) → range_with_len 0 met ≡ different nat_eq (part_places tokens) → used ≡ length (different nat_eq (part_places tokens)) → met ≡ used
as_many_met tokens met used is counted = omega (arith, counted, length-range_with_len 0 met, ap length is)

-- If as many places were used as there are different ones, they are all.
pub in_order : (tokens : List InternedToken) (index met used : ℕ) → range_with_len 0 met ≡ different nat_eq (part_places (take index tokens))
    → used ≡ length (different nat_eq (part_places tokens)) → met ≡ used → different nat_eq (part_places tokens) ≡ range_with_len 0 used
in_order tokens index met used so_far counted all =
    sym (so_far ∙ all_met nat_eq nat_eq_equiv token_places tokens index (omega (arith, counted, all, length-range_with_len 0 met, ap length so_far))) ∙ ap (range_with_len 0) all

-- A fact that follows if two numbers are equal.
pub if_equal : {P : Type 0} (m n : ℕ) → (m ≡ n → P) → OnTrue (nat_eq m n) P
if_equal {P} m n follows = by_test (nat_eq m n) refl
  where
    by_test : (t : Bool) → nat_eq m n ≡ t → OnTrue t P
    by_test true e = follows (eqb-true m n e)
    by_test false e = tt

-- Each value is at the place that is its index.
pub all_in_order : {X : Type 0} (before values : List X) → AllZip (IsAt (before ++ values)) (range_with_len (length before) (length values)) values
all_in_order before [] = tt
all_in_order {X} before (x ∷ values) = (
  stands before,
  subst (λ all. AllZip (IsAt all) (range_with_len (length before + 1) (length values)) values) (append_assoc before (x ∷ []) values)
      (subst (λ start. AllZip (IsAt ((before ++ x ∷ []) ++ values)) (range_with_len start (length values)) values) (one_more before) (all_in_order (before ++ x ∷ []) values)),
)
  where
    stands : (xs : List X) → slice_get (xs ++ x ∷ values) (length xs) ≡ Some x
    stands [] = refl
    stands (y ∷ xs) = stands xs

    one_more : (xs : List X) → length (xs ++ x ∷ []) ≡ length xs + 1
    one_more xs = length-append xs (x ∷ [])
