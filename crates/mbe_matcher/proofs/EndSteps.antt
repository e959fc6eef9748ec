-- Where the rounds of a repetition end, note by note.
use Rattle.std.proofs.Common.{◌≡◌, ◌+◌, ◌<◌, ◌≤◌, ◌∙◌, ℕ, suc, Bool, true, false, List, [], ◌∷◌, ◌++◌, drop, length, get_or, map, refl, ap, ap₂, sym, arith, cond, append_assoc}
use Rattle.std.proofs.lemmas.List.{at_drop_more}
use Rattle.std.specs.Prelude.{nat_eq}
use Rattle.mbe_matcher.specs.declared.mark.Mark.{Mark}
use Rattle.mbe_matcher.specs.Ends.{sums, counted_on, ends_with}
use Rattle.mbe_matcher.specs.Grouping.{counts_by}
use Rattle.mbe_matcher.specs.Marks.{Note, note_of, taken, begun, ended}

-- all ends, after that many rounds
abbrev pub ends_by : (number : ℕ) → (so_far : ℕ) → List Note → List ℕ
ends_by number so_far [] = []
ends_by number so_far (it ∷ more) = ends_with number so_far it (ends_by number (counted_on number so_far it) more)

-- They are sums of counts.
pub ends_are : (number before so_far : ℕ) (notes : List Note) (n : ℕ) → n ≡ before + so_far → ends_by number n notes ≡ sums before (counts_by number so_far notes)
ends_are number before so_far [] n is = refl
ends_are number before so_far (taken other trees ∷ more) n is = ends_are number before so_far more n is
ends_are number before so_far (begun other ∷ more) n is =
    by (nat_eq other number) (ends_are number before (suc so_far) more (suc n) (omega (arith, is))) (ends_are number before so_far more n is)
  where
    by : (b : Bool) → ends_by number (suc n) more ≡ sums before (counts_by number (suc so_far) more) → ends_by number n more ≡ sums before (counts_by number so_far more)
        → ends_by number (cond b (suc n) n) more ≡ sums before (cond b (counts_by number (suc so_far) more) (counts_by number so_far more))
    by true same others = same
    by false same others = others
ends_are number before so_far (ended other ∷ more) n is =
    by (nat_eq other number) (ends_are number (before + so_far) 0 more n (omega (arith, is))) (ends_are number before so_far more n is)
  where
    by : (b : Bool) → ends_by number n more ≡ sums (before + so_far) (counts_by number 0 more) → ends_by number n more ≡ sums before (counts_by number so_far more)
        → cond b (n ∷ ends_by number n more) (ends_by number n more) ≡ sums before (cond b (so_far ∷ counts_by number 0 more) (counts_by number so_far more))
    by true same others = ap₂ (λ k l. k ∷ l) is same
    by false same others = others

-- The end that a note adds precedes the others.
ends_before : (number so_far : ℕ) (it : Note) (behind : List ℕ) → ends_with number so_far it behind ≡ ends_with number so_far it [] ++ behind
ends_before number so_far (taken other trees) behind = refl
ends_before number so_far (begun other) behind = refl
ends_before number so_far (ended other) behind = by (nat_eq other number)
  where
    by : (b : Bool) → cond b (so_far ∷ behind) behind ≡ cond b (so_far ∷ []) [] ++ behind
    by true = refl
    by false = refl

-- At most as many rounds are counted as notes are passed.
pub few_on : (number so_far i : ℕ) (it : Note) → so_far ≤ i → counted_on number so_far it ≤ i + 1
few_on number so_far i (taken other trees) le = omega (arith, le)
few_on number so_far i (begun other) le = by (nat_eq other number)
  where
    by : (b : Bool) → cond b (suc so_far) so_far ≤ i + 1
    by true = omega (arith, le)
    by false = omega (arith, le)
few_on number so_far i (ended other) le = omega (arith, le)

-- One more mark is passed.
pub ends_on : (number so_far : ℕ) (marks : List Mark) (i : ℕ) (d : Mark) (old new : List ℕ) → i < length marks → new ≡ old ++ ends_with number so_far (note_of (get_or marks i d)) []
    → new ++ ends_by number (counted_on number so_far (note_of (get_or marks i d))) (map note_of (drop (i + 1) marks)) ≡ old ++ ends_by number so_far (map note_of (drop i marks))
ends_on number so_far marks i d old new lt is =
    let it = note_of (get_or marks i d) in
    let rest = ends_by number (counted_on number so_far it) (map note_of (drop (i + 1) marks)) in
    ap (λ l. l ++ rest) is
    ∙ append_assoc old (ends_with number so_far it []) rest
    ∙ ap (λ l. old ++ l) (sym (ends_before number so_far it rest) ∙ sym (at_drop_more (λ its. ends_by number so_far (map note_of its)) marks i d lt))
