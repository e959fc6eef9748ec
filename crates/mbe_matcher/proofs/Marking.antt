-- Flags that are set, and the list of their numbers.
use Rattle.std.proofs.Common.{◌≡◌, ◌+◌, ◌<◌, ◌≤◌, ◌∙◌, ℕ, suc, zero, Bool, true, false, List, [], ◌∷◌, ◌++◌, get_or, drop, length, refl, ap, sym, subst, arith, append_assoc, append-nil}
use Rattle.std.proofs.lemmas.List.{drop_more, drop_all}
use Rattle.std.specs.Prelude.{Contains, slice_index}
use Rattle.std.specs.List.Sorted.{IsStrictlyIncreasing}
use Rattle.mbe_matcher.specs.Waiting.{IsSet, set_from}

-- the numbers rise, from that one on
abbrev AreRising : (from : ℕ) → List ℕ → Type 0
AreRising from [] = Unit {0}
AreRising from (n ∷ others) = (from ≤ n) × AreRising (suc n) others

rising_sooner : (from sooner : ℕ) (numbers : List ℕ) → sooner ≤ from → AreRising from numbers → AreRising sooner numbers
rising_sooner from sooner [] le rising = tt
rising_sooner from sooner (n ∷ others) le rising = (omega (arith, le, rising.0), rising.1)

set_rising : (from : ℕ) (flags : List Bool) → AreRising from (set_from from flags)
set_rising from [] = tt
set_rising from (true ∷ flags) = (omega arith, set_rising (suc from) flags)
set_rising from (false ∷ flags) = rising_sooner (suc from) from (set_from (suc from) flags) (omega arith) (set_rising (suc from) flags)

increasing : (from : ℕ) (numbers : List ℕ) → AreRising from numbers → IsStrictlyIncreasing numbers
increasing from [] rising k lt = absurd (omega (arith, lt))
increasing from (n ∷ []) rising k lt = absurd (omega (arith, lt))
increasing from (n ∷ next ∷ others) rising zero lt = omega (arith, rising.1.0)
increasing from (n ∷ next ∷ others) rising (suc k) lt =
    let same : suc (k + 1) ≡ suc k + 1 = omega arith in
    subst (λ j. slice_index (n ∷ next ∷ others) (suc k) < slice_index (n ∷ next ∷ others) j) same (increasing (suc n) (next ∷ others) rising.1 k (omega (arith, lt)))

-- The numbers of the flags rise.
pub set_increasing : (flags : List Bool) → IsStrictlyIncreasing (set_from 0 flags)
set_increasing flags = increasing 0 (set_from 0 flags) (set_rising 0 flags)

contains_more : (first n : ℕ) (others : List ℕ) → Contains others n → Contains (first ∷ others) n
contains_more first n others (k, lt, is) = (suc k, omega (arith, lt), is)

set_contains : (from k : ℕ) (flags : List Bool) → get_or flags k false ≡ true → Contains (set_from from flags) (from + k)
set_contains from k [] is = absurd (cc is)
set_contains from zero (true ∷ flags) is = (0, omega arith, omega arith)
set_contains from zero (false ∷ flags) is = absurd (cc is)
set_contains from (suc k) (true ∷ flags) is =
    let next : suc from + k ≡ from + suc k = omega arith in
    contains_more from (from + suc k) (set_from (suc from) flags) (subst (Contains (set_from (suc from) flags)) next (set_contains (suc from) k flags is))
set_contains from (suc k) (false ∷ flags) is =
    let next : suc from + k ≡ from + suc k = omega arith in subst (Contains (set_from (suc from) flags)) next (set_contains (suc from) k flags is)

set_only_from : (from n : ℕ) (flags : List Bool) → Contains (set_from from flags) n → (k : ℕ) × (n ≡ from + k) × (get_or flags k false ≡ true)
set_only_from from n [] (k, lt, is) = absurd (omega (arith, lt))
set_only_from from n (true ∷ flags) (zero, lt, is) = (0, omega (arith, is), refl)
set_only_from from n (true ∷ flags) (suc k, lt, is) =
    let found = set_only_from (suc from) n flags (k, omega (arith, lt), is) in (suc found.0, omega (arith, found.1), found.2)
set_only_from from n (false ∷ flags) there = let found = set_only_from (suc from) n flags there in (suc found.0, omega (arith, found.1), found.2)

-- The list contains the number of each flag that is set, and no other.
pub set_listed : (flags : List Bool) (n : ℕ) → IsSet flags n → Contains (set_from 0 flags) n
set_listed flags n is = let same : 0 + n ≡ n = omega arith in subst (Contains (set_from 0 flags)) same (set_contains 0 n flags is)

pub listed_set : (flags : List Bool) (n : ℕ) → Contains (set_from 0 flags) n → IsSet flags n
listed_set flags n there =
    let found = set_only_from 0 n flags there in
    let same : found.0 ≡ n = omega (arith, found.1) in
    subst (λ k. get_or flags k false ≡ true) same found.2

module _ (flags : List Bool) (i : ℕ) (lt : i < length flags) where
  next_flag : (b : Bool) → get_or flags i false ≡ b → set_from i (drop i flags) ≡ set_from i (b ∷ drop (i + 1) flags)
  next_flag b is = ap (set_from i) (drop_more flags i false lt ∙ ap (λ f. f ∷ drop (i + 1) flags) is)

  after : ◌≡◌ {A = List ℕ} (set_from (suc i) (drop (i + 1) flags)) (set_from (i + 1) (drop (i + 1) flags))
  after = let same : suc i ≡ i + 1 = omega arith in ap (λ n. set_from n (drop (i + 1) flags)) same

  -- The next flag is set, or not.
  pub set_next : (numbers whole : List ℕ) → get_or flags i false ≡ true → numbers ++ set_from i (drop i flags) ≡ whole
      → (numbers ++ i ∷ []) ++ set_from (i + 1) (drop (i + 1) flags) ≡ whole
  set_next numbers whole is before =
      append_assoc numbers (i ∷ []) (set_from (i + 1) (drop (i + 1) flags)) ∙ ap (λ ns. numbers ++ i ∷ ns) (sym after) ∙ ap (λ ns. numbers ++ ns) (sym (next_flag true is)) ∙ before

  pub set_skipped : (numbers whole : List ℕ) → get_or flags i false ≡ false → numbers ++ set_from i (drop i flags) ≡ whole
      → numbers ++ set_from (i + 1) (drop (i + 1) flags) ≡ whole
  set_skipped numbers whole is before = ap (λ ns. numbers ++ ns) (sym after) ∙ ap (λ ns. numbers ++ ns) (sym (next_flag false is)) ∙ before

-- No flag is left.
pub set_done : (flags : List Bool) (i : ℕ) (numbers whole : List ℕ) → length flags ≤ i → numbers ++ set_from i (drop i flags) ≡ whole → numbers ≡ whole
set_done flags i numbers whole le before = sym (append-nil numbers) ∙ sym (ap (λ fs. numbers ++ set_from i fs) (drop_all i flags le)) ∙ before
