-- What a finding says is expected is one thing.
use Rattle.std.proofs.Common.{◌≡◌, ◌⊎◌, ◌<◌, ◌≤◌, ◌+◌, ◌++◌, ◌∙◌, ℕ, zero, suc, List, [], ◌∷◌, Option, Some, length, map, codes, inl, inr, refl, ap, ap₂, sym, subst, arith}
use Rattle.std.specs.List.{join_by}
use Rattle.std.specs.Prelude.{Contains, slice_index, slice_index_or}
use Rattle.std.specs.List.Sorted.{IsStrictlyIncreasing}
use Rattle.tt.specs.Forest.{Forest}
use Rattle.expand_items.specs.Items.{Call}
use Rattle.expand_text.specs.declared.fault.MacroFault.{MacroFault}
use Rattle.expand_text.specs.declared.fault.MacroFault.TheVariants as wrong
use Rattle.expand_text.specs.Expecting.{IsExpected, IsExpectedFor, parts_named}
use Rattle.expand_text.proofs.OneExpansion.{one_expansion}
use Rattle.mbe_matcher.specs.Waiting.{AreWaiting}
use Rattle.mbe_pattern.specs.Patterns.{Pattern}
use Rattle.mbe_rules.specs.declared.macro_rules.ArmPart.{ArmPart}
use Rattle.mbe_rules.specs.declared.macro_rules.Expansion.TheVariants as expansion
use Rattle.mbe_rules.specs.Arms.{Arm}
use Rattle.mbe_rules.specs.Waiting.{AreWaitingIn, in_arm}

-- the numbers rise, from that one on
abbrev AreRising : (from : ℕ) → List ℕ → Type 0
AreRising from [] = Unit {0}
AreRising from (n ∷ others) = (from ≤ n) × AreRising (suc n) others

-- What follows the first increases too.
behind_first : (n next : ℕ) (others : List ℕ) → IsStrictlyIncreasing (n ∷ next ∷ others) → IsStrictlyIncreasing (next ∷ others)
behind_first n next others increasing k lt =
    let same : suc k + 1 ≡ suc (k + 1) = omega arith in
    subst (λ j. slice_index (n ∷ next ∷ others) (suc k) < slice_index (n ∷ next ∷ others) j) same (increasing (suc k) (omega (arith, lt)))

rising : (from n : ℕ) (others : List ℕ) → from ≤ n → IsStrictlyIncreasing (n ∷ others) → AreRising from (n ∷ others)
rising from n [] le increasing = (le, tt)
rising from n (next ∷ others) le increasing = (le, rising (suc n) next others (omega (arith, increasing 0 (omega arith))) (behind_first n next others increasing))

rises : (numbers : List ℕ) → IsStrictlyIncreasing numbers → AreRising 0 numbers
rises [] increasing = tt
rises (n ∷ others) increasing = rising 0 n others (omega arith) increasing

-- What rising numbers contain is no lower than where they begin.
no_lower : (from n : ℕ) (numbers : List ℕ) → AreRising from numbers → Contains numbers n → from ≤ n
no_lower from n [] rise (k, lt, is) = absurd (omega (arith, lt))
no_lower from n (first ∷ others) rise (zero, lt, is) = omega (arith, rise.0, is)
no_lower from n (first ∷ others) rise (suc k, lt, is) = omega (arith, rise.0, no_lower (suc first) n others rise.1 (k, omega (arith, lt), is))

-- What is contained is the first, or is contained in the others.
first_or_others : (first n : ℕ) (others : List ℕ) → Contains (first ∷ others) n → (first ≡ n) ⊎ Contains others n
first_or_others first n others (zero, lt, is) = inl is
first_or_others first n others (suc k, lt, is) = inr (k, omega (arith, lt), is)

first_contained : (first : ℕ) (others : List ℕ) → Contains (first ∷ others) first
first_contained first others = (0, omega arith, refl)

behind_contained : (first n : ℕ) (others : List ℕ) → Contains others n → Contains (first ∷ others) n
behind_contained first n others (k, lt, is) = (suc k, omega (arith, lt), is)

-- Behind the same first number, the others contain the same.
others_contained : (first n : ℕ) (xs ys : List ℕ) → AreRising (suc first) xs → (Contains (first ∷ xs) n → Contains (first ∷ ys) n) → Contains xs n → Contains ys n
others_contained first n xs ys rise same there =
    elim (first_or_others first n ys (same (behind_contained first n xs there))) [
      | inl is ↦ absurd (omega (arith, is, no_lower (suc first) n xs rise there))
      | inr behind ↦ behind
    ]

-- The first of rising numbers is no lower than that of others that contain it.
first_no_lower : (from x y : ℕ) (xs ys : List ℕ) → AreRising from (y ∷ ys) → Contains (y ∷ ys) x → y ≤ x
first_no_lower from x y xs ys rise there =
    elim (first_or_others y x ys there) [ inl is ↦ omega (arith, is) | inr behind ↦ omega (arith, no_lower (suc y) x ys rise.1 behind) ]

-- Rising numbers that contain the same are the same.
same_numbers : (from low : ℕ) (xs ys : List ℕ) → AreRising from xs → AreRising low ys → ((n : ℕ) → Contains xs n → Contains ys n) → ((n : ℕ) → Contains ys n → Contains xs n) → xs ≡ ys
same_numbers from low [] [] rise climb to back = refl
same_numbers from low [] (y ∷ ys) rise climb to back =
    let none = back y (first_contained y ys) in
    absurd (omega (arith, none.1))
same_numbers from low (x ∷ xs) [] rise climb to back =
    let none = to x (first_contained x xs) in
    absurd (omega (arith, none.1))
same_numbers from low (x ∷ xs) (y ∷ ys) rise climb to back =
    let same : x ≡ y = omega (arith, first_no_lower low x y xs ys climb (to x (first_contained x xs)), first_no_lower from y x ys xs rise (back y (first_contained y ys))) in
    let climbs : AreRising (suc x) ys = subst (λ n. AreRising (suc n) ys) (sym same) climb.1 in
    let others : xs ≡ ys =
    same_numbers (suc x) (suc x) xs ys rise.1 climbs
    (λ n. others_contained x n xs ys rise.1 (subst (λ m. Contains (x ∷ xs) n → Contains (m ∷ ys) n) (sym same) (to n)))
    (λ n. others_contained x n ys xs climbs (subst (λ m. Contains (m ∷ ys) n → Contains (x ∷ xs) n) (sym same) (back n)))
    in
    ap₂ (λ n ns. n ∷ ns) same others

-- One list of parts of a pattern waits at a place.
one_waiting : (pattern : Pattern) (input : Forest) (at : ℕ) (a b : List ℕ) → AreWaiting pattern input at a → AreWaiting pattern input at b → a ≡ b
one_waiting pattern input at a b h k =
    same_numbers 0 0 a b (rises a h.rising) (rises b k.rising) (λ n there. k.all n (h.each n there)) (λ n there. h.all n (k.each n there))

-- And of the patterns of arms.
one_waiting_in : (arms : List Arm) (number : ℕ) (input : Forest) (at : ℕ) (a b : List ArmPart) → AreWaitingIn arms number input at a → AreWaitingIn arms number input at b → a ≡ b
one_waiting_in [] number input at a b h k = h ∙ sym k
one_waiting_in (arm ∷ others) number input at a b (own, more, is, waits, rest) (its, further, was, wait, behind) =
    is
    ∙ ap₂ (λ ns ps. map (in_arm number) ns ++ ps) (one_waiting arm.pattern input at own its waits wait) (one_waiting_in others (suc number) input at more further rest behind)
    ∙ sym was

one_text : (arms : List Arm) (input : Forest) (place : ℕ) (a b : List ℕ) → IsExpected arms input place a → IsExpected arms input place b → a ≡ b
one_text arms input place a b (parts, waits, is) (others, wait, was) =
    is ∙ ap (λ ps. join_by (λ text. text) (codes " or ") (parts_named arms ps)) (one_waiting_in arms 0 input place parts others waits wait) ∙ sym was

-- One thing is expected.
pub one_expected : (arms : List Arm) (it : Call) (fault : MacroFault) (a b : Option (List ℕ)) → IsExpectedFor arms it fault a → IsExpectedFor arms it fault b → a ≡ b
one_expected arms it wrong.NoMatch a b (place, stops, text, wants, is) (other, stop, words, want, was) =
    let both = one_expansion arms 0 0 it.input (expansion.NoMatch place) (expansion.NoMatch other) stops stop in
    let same : place ≡ other = cc both in
    is ∙ ap Some (one_text arms it.input other text words (subst (λ n. IsExpected arms it.input n text) same wants) want) ∙ sym was
one_expected arms it fault a b is was = is ∙ sym was
