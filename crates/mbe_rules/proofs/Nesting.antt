-- What is bound in a round, found in flat lists.
use Rattle.std.proofs.Common.{◌≡◌, ◌+◌, ◌-◌, ◌<◌, ◌≤◌, ℕ, zero, suc, List, [], ◌∷◌, map, length, take, drop, get_or, None, refl, ap, sym, ◌∙◌, arith}
use Rattle.std.proofs.lemmas.List.{get_or-take, get_or-drop, length-drop, drop-drop, get_or_past}
use Rattle.std.specs.Prelude.{slice_get}
use Rattle.tt.specs.Forest.{Forest}
use Rattle.mbe_matcher.specs.Bindings.{Bound, one, none}
use Rattle.mbe_matcher.specs.Ends.{sums}
use Rattle.mbe_matcher.specs.Grouping.{listed, grouped, first_bound, bounds_by, taken_by, counts_by}
use Rattle.mbe_matcher.specs.Marks.{Note}
use Rattle.mbe_rules.specs.Transcribing.{round_count}
use Rattle.mbe_rules.specs.Rounds.{round_at, bound_in, rounds, seen_of, time_seen, nested, lesser, first_at, count_at}

-- the number of the first round of that time, if that many came before all
abbrev first_from : (so_far : ℕ) → (ends : List ℕ) → (time : ℕ) → ℕ
first_from so_far ends zero = so_far
first_from so_far ends (suc before) = get_or ends before 0

first_none : (ends : List ℕ) (time : ℕ) → first_from 0 ends time ≡ first_at ends time
first_none ends zero = refl
first_none ends (suc before) = refl

first_next : (so_far : ℕ) (ends : List ℕ) (time : ℕ) → first_from so_far ends time ≡ get_or (so_far ∷ ends) time 0
first_next so_far ends zero = refl
first_next so_far ends (suc before) = refl

-- the rounds from one to another
abbrev between : (from to : ℕ) → List Bound → List Bound
between from to all = take (to - from) (drop from all)

-- A time of a repetition has the rounds between its first one and its end.
grouped_from : (all : List Bound) (counts : List ℕ) (so_far : ℕ) (time : ℕ)
    → get_or (grouped counts (drop so_far all)) time none
    ≡ listed (between (first_from so_far (sums so_far counts) time) (get_or (sums so_far counts) time 0) all)
grouped_from all [] so_far time =
    get_or_past [] time none (omega arith)
    ∙ sym (ap (λ to. listed (between (first_from so_far [] time) to all)) (get_or_past [] time 0 (omega arith)) ∙ ap (λ n. listed (take n (drop (first_from so_far [] time) all))) none_left)
  where
    none_left : 0 - first_from so_far [] time ≡ 0
    none_left = omega arith
grouped_from all (n ∷ counts) so_far zero = ap (λ m. listed (take m (drop so_far all))) (omega arith)
grouped_from all (n ∷ counts) so_far (suc time) =
    ap (λ l. get_or (grouped counts l) time none) (drop-drop n so_far all)
    ∙ grouped_from all counts (so_far + n) time
    ∙ ap (λ from. listed (between from (get_or (sums (so_far + n) counts) time 0) all)) (first_next (so_far + n) (sums (so_far + n) counts) time)

grouped_at : (all : List Bound) (counts : List ℕ) (time : ℕ)
    → get_or (grouped counts all) time none ≡ listed (between (first_at (sums 0 counts) time) (get_or (sums 0 counts) time 0) all)
grouped_at all counts time =
    grouped_from all counts 0 time ∙ ap (λ from. listed (between from (get_or (sums 0 counts) time 0) all)) (first_none (sums 0 counts) time)

length_taken : (n : ℕ) (its : List Bound) → length (take n its) ≡ lesser n (length its)
length_taken zero its = omega arith
length_taken (suc n) [] = omega arith
length_taken (suc n) (it ∷ its) = omega (arith, length_taken n its)

-- How many they are.
between_length : (ends : List ℕ) (time : ℕ) (all : List Bound)
    → length (between (first_at ends time) (get_or ends time 0) all) ≡ count_at ends time (length all)
between_length ends time all =
    omega (
      arith,
      length_taken (get_or ends time 0 - first_at ends time) (drop (first_at ends time) all),
      length-drop (first_at ends time) all,
    )

-- A list of rounds is seen as its length, and has the round of each number.
listed_count : (its : List Bound) → round_count (listed its) ≡ length its
listed_count [] = refl
listed_count (it ∷ its) = ap suc (listed_count its)

seen_listed : (its : List Bound) → seen_of (listed its) ≡ rounds (length its)
seen_listed [] = refl
seen_listed (it ∷ its) = ap (λ n. rounds (suc n)) (listed_count its)

round_listed : (n : ℕ) (its : List Bound) → round_at n (listed its) ≡ get_or its n none
round_listed zero [] = refl
round_listed zero (it ∷ its) = refl
round_listed (suc n) [] = round_listed n []
round_listed (suc n) (it ∷ its) = round_listed n its

-- An empty list has nothing in any round; trees are the same in each.
none_stays : (numbers : List ℕ) → bound_in numbers none ≡ none
none_stays [] = refl
none_stays (n ∷ inner) = ap (bound_in inner) (round_listed n [] ∙ get_or_past [] n none (omega arith)) ∙ none_stays inner

one_round : (n : ℕ) (its : Forest) → round_at n (one its) ≡ one its
one_round zero its = refl
one_round (suc n) its = one_round n its

one_stays : (numbers : List ℕ) (its : Forest) → bound_in numbers (one its) ≡ one its
one_stays [] its = refl
one_stays (n ∷ inner) its = ap (bound_in inner) (one_round n its) ∙ one_stays inner its

module _ (all : List Bound) (counts : List ℕ) (time : ℕ) where
  -- the rounds of that time
  abbrev here : List Bound
  here = between (first_at (sums 0 counts) time) (get_or (sums 0 counts) time 0) all

  -- If no round of it is under way, that many rounds are seen.
  pub seen_rounds : seen_of (get_or (grouped counts all) time none) ≡ rounds (count_at (sums 0 counts) time (length all))
  seen_rounds = ap seen_of (grouped_at all counts time) ∙ seen_listed here ∙ ap rounds (between_length (sums 0 counts) time all)

  -- In an existing round, what is bound comes after the earlier rounds.
  pub in_one : (n : ℕ) (inner : List ℕ) → n < count_at (sums 0 counts) time (length all)
      → bound_in (n ∷ inner) (get_or (grouped counts all) time none) ≡ bound_in inner (get_or all (first_at (sums 0 counts) time + n) none)
  in_one n inner within =
      let few : n < get_or (sums 0 counts) time 0 - first_at (sums 0 counts) time = omega (arith, within) in
      ap (λ b. bound_in inner (round_at n b)) (grouped_at all counts time)
      ∙ ap (bound_in inner)
      (round_listed n here
      ∙ get_or-take (get_or (sums 0 counts) time 0 - first_at (sums 0 counts) time) (drop (first_at (sums 0 counts) time) all) n none few
      ∙ get_or-drop (first_at (sums 0 counts) time) all n none)

  -- In a round that does not exist, there is no round.
  pub in_none : (n : ℕ) (inner : List ℕ) → count_at (sums 0 counts) time (length all) ≤ n
      → seen_of (bound_in (n ∷ inner) (get_or (grouped counts all) time none)) ≡ rounds 0
  in_none n inner past =
      let many : length here ≤ n = omega (arith, between_length (sums 0 counts) time all, past) in
      ap (λ b. seen_of (bound_in inner (round_at n b))) (grouped_at all counts time)
      ∙ ap (λ b. seen_of (bound_in inner b)) (round_listed n here ∙ get_or_past here n none many)
      ∙ ap seen_of (none_stays inner)

-- If no repetition is left, the trees of that time are seen.
pub seen_trees_at : (numbers : List ℕ) (its : List Forest) (time : ℕ) → seen_of (bound_in numbers (get_or (map one its) time none)) ≡ time_seen (slice_get its time)
seen_trees_at numbers [] time = ap (λ b. seen_of (bound_in numbers b)) (get_or_past [] time none (omega arith)) ∙ ap seen_of (none_stays numbers) ∙ sym (ap time_seen (slice_get_none time))
  where
    slice_get_none : (n : ℕ) → slice_get {X = Forest} [] n ≡ None
    slice_get_none zero = refl
    slice_get_none (suc n) = refl
seen_trees_at numbers (it ∷ its) zero = ap seen_of (one_stays numbers it)
seen_trees_at numbers (it ∷ its) (suc time) = seen_trees_at numbers its time

-- The first bound of all.
pub first_is : (its : List Bound) → first_bound its ≡ get_or its 0 none
first_is [] = refl
first_is (it ∷ others) = refl

-- What notes bind to a variable is what these flat lists represent.
pub bounds_nested : (nest : List ℕ) (number : ℕ) (notes : List Note)
    → bounds_by nest number notes ≡ nested (map (λ r. counts_by r 0 notes) nest) (taken_by number notes)
bounds_nested [] number notes = refl
bounds_nested (outer ∷ nest) number notes = ap (grouped (counts_by outer 0 notes)) (bounds_nested nest number notes)

-- One function after another is their composition.
pub twice : {A B C : Type 0} (f : A → B) (g : B → C) (its : List A) → map g (map f its) ≡ map (λ it. g (f it)) its
twice f g [] = refl
twice f g (it ∷ its) = ap (λ l. g (f it) ∷ l) (twice f g its)
