-- What notes bind to a variable, part by part.
use Rattle.std.proofs.Common.{◌≡◌, ◌+◌, ◌≤◌, ◌∙◌, ℕ, suc, zero, Bool, true, false, List, [], ◌∷◌, ◌++◌, map, length, take, drop, refl, ap, ap₂, sym, arith, cond, length-append}
use Rattle.std.proofs.lemmas.List.{append-nil, map-append}
use Rattle.std.specs.Prelude.{nat_eq}
use Rattle.mbe_matcher.specs.Bindings.{Bound, one}
use Rattle.mbe_matcher.specs.Grouping.{taken_by, counts_by, listed, grouped, bounds_by}
use Rattle.mbe_matcher.specs.Marks.{Note, taken, begun, ended}

-- the number of a note
abbrev pub number_of : Note → ℕ
number_of (taken number trees) = number
number_of (begun number) = number
number_of (ended number) = number

-- the sum of numbers
abbrev pub total : List ℕ → ℕ
total [] = 0
total (n ∷ others) = n + total others

total-append : (ns ms : List ℕ) → total (ns ++ ms) ≡ total ns + total ms
total-append [] ms = omega arith
total-append (n ∷ ns) ms = omega (arith, total-append ns ms)

-- how many rounds the notes count without an end after them
abbrev pub counted : (number : ℕ) → (so_far : ℕ) → List Note → ℕ
counted number so_far [] = so_far
counted number so_far (taken other trees ∷ more) = counted number so_far more
counted number so_far (begun other ∷ more) = cond (nat_eq other number) (counted number (suc so_far) more) (counted number so_far more)
counted number so_far (ended other ∷ more) = cond (nat_eq other number) (counted number 0 more) (counted number so_far more)

-- no note has that number
abbrev pub Lacks : ℕ → List Note → Type 0
Lacks number [] = Unit {0}
Lacks number (it ∷ others) = (nat_eq (number_of it) number ≡ false) × Lacks number others

-- One list of notes after another.
pub taken-append : (number : ℕ) (xs ys : List Note) → taken_by number (xs ++ ys) ≡ taken_by number xs ++ taken_by number ys
taken-append number [] ys = refl
taken-append number (taken other trees ∷ xs) ys = by (nat_eq other number) (taken-append number xs ys)
  where
    by : (b : Bool) → taken_by number (xs ++ ys) ≡ taken_by number xs ++ taken_by number ys
        → cond b (trees ∷ taken_by number (xs ++ ys)) (taken_by number (xs ++ ys)) ≡ cond b (trees ∷ taken_by number xs) (taken_by number xs) ++ taken_by number ys
    by true rest = ap (λ l. trees ∷ l) rest
    by false rest = rest
taken-append number (begun other ∷ xs) ys = taken-append number xs ys
taken-append number (ended other ∷ xs) ys = taken-append number xs ys

pub counts-append : (number so_far : ℕ) (xs ys : List Note) → counts_by number so_far (xs ++ ys) ≡ counts_by number so_far xs ++ counts_by number (counted number so_far xs) ys
counts-append number so_far [] ys = refl
counts-append number so_far (taken other trees ∷ xs) ys = counts-append number so_far xs ys
counts-append number so_far (begun other ∷ xs) ys = by (nat_eq other number) (counts-append number (suc so_far) xs ys) (counts-append number so_far xs ys)
  where
    by : (b : Bool) → counts_by number (suc so_far) (xs ++ ys) ≡ counts_by number (suc so_far) xs ++ counts_by number (counted number (suc so_far) xs) ys
        → counts_by number so_far (xs ++ ys) ≡ counts_by number so_far xs ++ counts_by number (counted number so_far xs) ys
        → cond b (counts_by number (suc so_far) (xs ++ ys)) (counts_by number so_far (xs ++ ys))
        ≡ cond b (counts_by number (suc so_far) xs) (counts_by number so_far xs) ++ counts_by number (cond b (counted number (suc so_far) xs) (counted number so_far xs)) ys
    by true same others = same
    by false same others = others
counts-append number so_far (ended other ∷ xs) ys = by (nat_eq other number) (counts-append number 0 xs ys) (counts-append number so_far xs ys)
  where
    by : (b : Bool) → counts_by number 0 (xs ++ ys) ≡ counts_by number 0 xs ++ counts_by number (counted number 0 xs) ys
        → counts_by number so_far (xs ++ ys) ≡ counts_by number so_far xs ++ counts_by number (counted number so_far xs) ys
        → cond b (so_far ∷ counts_by number 0 (xs ++ ys)) (counts_by number so_far (xs ++ ys))
        ≡ cond b (so_far ∷ counts_by number 0 xs) (counts_by number so_far xs) ++ counts_by number (cond b (counted number 0 xs) (counted number so_far xs)) ys
    by true same others = ap (λ l. so_far ∷ l) same
    by false same others = others

pub counted-append : (number so_far : ℕ) (xs ys : List Note) → counted number so_far (xs ++ ys) ≡ counted number (counted number so_far xs) ys
counted-append number so_far [] ys = refl
counted-append number so_far (taken other trees ∷ xs) ys = counted-append number so_far xs ys
counted-append number so_far (begun other ∷ xs) ys = by (nat_eq other number) (counted-append number (suc so_far) xs ys) (counted-append number so_far xs ys)
  where
    by : (b : Bool) → counted number (suc so_far) (xs ++ ys) ≡ counted number (counted number (suc so_far) xs) ys → counted number so_far (xs ++ ys) ≡ counted number (counted number so_far xs) ys
        → cond b (counted number (suc so_far) (xs ++ ys)) (counted number so_far (xs ++ ys)) ≡ counted number (cond b (counted number (suc so_far) xs) (counted number so_far xs)) ys
    by true same others = same
    by false same others = others
counted-append number so_far (ended other ∷ xs) ys = by (nat_eq other number) (counted-append number 0 xs ys) (counted-append number so_far xs ys)
  where
    by : (b : Bool) → counted number 0 (xs ++ ys) ≡ counted number (counted number 0 xs) ys → counted number so_far (xs ++ ys) ≡ counted number (counted number so_far xs) ys
        → cond b (counted number 0 (xs ++ ys)) (counted number so_far (xs ++ ys)) ≡ counted number (cond b (counted number 0 xs) (counted number so_far xs)) ys
    by true same others = same
    by false same others = others

-- Notes of other numbers say nothing.
pub taken-lacks : (number : ℕ) (xs : List Note) → Lacks number xs → taken_by number xs ≡ []
taken-lacks number [] lacks = refl
taken-lacks number (taken other trees ∷ xs) lacks = ap (λ b. cond b (trees ∷ taken_by number xs) (taken_by number xs)) lacks.0 ∙ taken-lacks number xs lacks.1
taken-lacks number (begun other ∷ xs) lacks = taken-lacks number xs lacks.1
taken-lacks number (ended other ∷ xs) lacks = taken-lacks number xs lacks.1

pub counts-lacks : (number so_far : ℕ) (xs : List Note) → Lacks number xs → counts_by number so_far xs ≡ []
counts-lacks number so_far [] lacks = refl
counts-lacks number so_far (taken other trees ∷ xs) lacks = counts-lacks number so_far xs lacks.1
counts-lacks number so_far (begun other ∷ xs) lacks =
    ap (λ b. cond b (counts_by number (suc so_far) xs) (counts_by number so_far xs)) lacks.0 ∙ counts-lacks number so_far xs lacks.1
counts-lacks number so_far (ended other ∷ xs) lacks =
    ap (λ b. cond b (so_far ∷ counts_by number 0 xs) (counts_by number so_far xs)) lacks.0 ∙ counts-lacks number so_far xs lacks.1

pub counted-lacks : (number so_far : ℕ) (xs : List Note) → Lacks number xs → counted number so_far xs ≡ so_far
counted-lacks number so_far [] lacks = refl
counted-lacks number so_far (taken other trees ∷ xs) lacks = counted-lacks number so_far xs lacks.1
counted-lacks number so_far (begun other ∷ xs) lacks =
    ap (λ b. cond b (counted number (suc so_far) xs) (counted number so_far xs)) lacks.0 ∙ counted-lacks number so_far xs lacks.1
counted-lacks number so_far (ended other ∷ xs) lacks =
    ap (λ b. cond b (counted number 0 xs) (counted number so_far xs)) lacks.0 ∙ counted-lacks number so_far xs lacks.1

-- The first bounds of one list and then another.
take_of_both : (n : ℕ) (bs cs : List Bound) → n ≤ length bs → take n (bs ++ cs) ≡ take n bs
take_of_both zero bs cs le = refl
take_of_both (suc n) [] cs le = absurd (omega (arith, le))
take_of_both (suc n) (b ∷ bs) cs le = ap (λ l. b ∷ l) (take_of_both n bs cs (omega (arith, le)))

drop_of_both : (n : ℕ) (bs cs : List Bound) → n ≤ length bs → drop n (bs ++ cs) ≡ drop n bs ++ cs
drop_of_both zero bs cs le = refl
drop_of_both (suc n) [] cs le = absurd (omega (arith, le))
drop_of_both (suc n) (b ∷ bs) cs le = drop_of_both n bs cs (omega (arith, le))

length_left : (n m : ℕ) (bs : List Bound) → n + m ≡ length bs → m ≡ length (drop n bs)
length_left zero m bs is = omega (arith, is)
length_left (suc n) m [] is = absurd (omega (arith, is))
length_left (suc n) m (b ∷ bs) is = length_left n m bs (omega (arith, is))

pub grouped-append : (ns ms : List ℕ) (bs cs : List Bound) → total ns ≡ length bs → grouped (ns ++ ms) (bs ++ cs) ≡ grouped ns bs ++ grouped ms cs
grouped-append [] ms [] cs is = refl
grouped-append [] ms (b ∷ bs) cs is = absurd (omega (arith, is))
grouped-append (n ∷ ns) ms bs cs is =
    ap₂ (λ (l m : List Bound). listed l ∷ grouped (ns ++ ms) m) (take_of_both n bs cs (omega (arith, is))) (drop_of_both n bs cs (omega (arith, is)))
    ∙ ap (λ l. listed (take n bs) ∷ l) (grouped-append ns ms (drop n bs) cs (length_left n (total ns) bs is))

-- in each repetition an end follows every round, and the counts sum to the number of bounds
abbrev pub IsWhole : (nest : List ℕ) → (number : ℕ) → List Note → Type 0
IsWhole [] number notes = Unit {0}
IsWhole (outer ∷ nest) number notes =
    (total (counts_by outer 0 notes) ≡ length (bounds_by nest number notes)) × (counted outer 0 notes ≡ 0) × IsWhole nest number notes

-- Whole notes bind what they bind, whatever follows.
pub bounds-append : (nest : List ℕ) (number : ℕ) (xs ys : List Note) → IsWhole nest number xs → bounds_by nest number (xs ++ ys) ≡ bounds_by nest number xs ++ bounds_by nest number ys
bounds-append [] number xs ys whole = ap (map one) (taken-append number xs ys) ∙ map-append one (taken_by number xs) (taken_by number ys)
bounds-append (outer ∷ nest) number xs ys whole =
    ap₂ grouped (counts-append outer 0 xs ys ∙ ap (λ n. counts_by outer 0 xs ++ counts_by outer n ys) whole.1) (bounds-append nest number xs ys whole.2)
    ∙ grouped-append (counts_by outer 0 xs) (counts_by outer 0 ys) (bounds_by nest number xs) (bounds_by nest number ys) whole.0

pub whole-append : (nest : List ℕ) (number : ℕ) (xs ys : List Note) → IsWhole nest number xs → IsWhole nest number ys → IsWhole nest number (xs ++ ys)
whole-append [] number xs ys one_whole other = tt
whole-append (outer ∷ nest) number xs ys one_whole other =
    let counts : counts_by outer 0 (xs ++ ys) ≡ counts_by outer 0 xs ++ counts_by outer 0 ys = counts-append outer 0 xs ys ∙ ap (λ n. counts_by outer 0 xs ++ counts_by outer n ys) one_whole.1 in
    let sums : total (counts_by outer 0 (xs ++ ys)) ≡ total (counts_by outer 0 xs) + total (counts_by outer 0 ys) = ap total counts ∙ total-append (counts_by outer 0 xs) (counts_by outer 0 ys) in
    let lengths : length (bounds_by nest number (xs ++ ys)) ≡ length (bounds_by nest number xs) + length (bounds_by nest number ys) =
    ap length (bounds-append nest number xs ys one_whole.2) ∙ length-append (bounds_by nest number xs) (bounds_by nest number ys) in (
      omega (arith, sums, lengths, one_whole.0, other.0),
      counted-append outer 0 xs ys ∙ ap (λ n. counted outer n ys) one_whole.1 ∙ other.1,
      whole-append nest number xs ys one_whole.2 other.2,
    )

-- no note has the number of the variable, or of a repetition around it
abbrev pub LacksAll : (nest : List ℕ) → (number : ℕ) → List Note → Type 0
LacksAll [] number notes = Lacks number notes
LacksAll (outer ∷ nest) number notes = Lacks outer notes × LacksAll nest number notes

-- Then they bind nothing to it, and are whole.
pub bounds-lacks : (nest : List ℕ) (number : ℕ) (xs : List Note) → LacksAll nest number xs → bounds_by nest number xs ≡ []
bounds-lacks [] number xs lacks = ap (map one) (taken-lacks number xs lacks)
bounds-lacks (outer ∷ nest) number xs lacks = ap (λ ns. grouped ns (bounds_by nest number xs)) (counts-lacks outer 0 xs lacks.0)

pub whole-lacks : (nest : List ℕ) (number : ℕ) (xs : List Note) → LacksAll nest number xs → IsWhole nest number xs
whole-lacks [] number xs lacks = tt
whole-lacks (outer ∷ nest) number xs lacks = (
  ap total (counts-lacks outer 0 xs lacks.0) ∙ sym (ap length (bounds-lacks nest number xs lacks.1)),
  counted-lacks outer 0 xs lacks.0,
  whole-lacks nest number xs lacks.1,
)

-- So before other notes, and after them, they change nothing.
pub bounds_behind_others : (nest : List ℕ) (number : ℕ) (xs ys : List Note) → LacksAll nest number xs → bounds_by nest number (xs ++ ys) ≡ bounds_by nest number ys
bounds_behind_others nest number xs ys lacks = bounds-append nest number xs ys (whole-lacks nest number xs lacks) ∙ ap (λ l. l ++ bounds_by nest number ys) (bounds-lacks nest number xs lacks)

pub bounds_before_others : (nest : List ℕ) (number : ℕ) (xs ys : List Note) → IsWhole nest number xs → LacksAll nest number ys → bounds_by nest number (xs ++ ys) ≡ bounds_by nest number xs
bounds_before_others nest number xs ys whole lacks =
    bounds-append nest number xs ys whole ∙ ap (λ l. bounds_by nest number xs ++ l) (bounds-lacks nest number ys lacks) ∙ append-nil (bounds_by nest number xs)
