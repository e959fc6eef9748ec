-- Arms make one thing of an input: a tree, no match, an ambiguity, or an error that names no limit of trees.
use Rattle.std.proofs.Common.{◌≡◌, ℕ, suc, ◌⊎◌, false, List, [], ◌∷◌, Option, None, Some, inl, inr, max, refl, ap, ap₂, sym, subst, ◌∙◌, arith, true≢false}
use Rattle.tt.specs.Forest.{Forest, Root, size}
use Rattle.tt.specs.TreeFault.{under}
use Rattle.tt.specs.Types.Delimiter.{Delimiter}
use Rattle.expand_text.specs.Limits.{is_limit}
use Rattle.mbe_matcher.specs.Fronts.{StopsAt}
use Rattle.mbe_matcher.specs.Readings.{Reading, IsReadBy, IsAmbiguous}
use Rattle.mbe_pattern.specs.Patterns.{Pattern}
use Rattle.mbe_rules.specs.declared.transcribe_error.TranscribeError.{TranscribeError}
use Rattle.mbe_rules.specs.declared.transcribe_error.TranscribeError.TheVariants as error
use Rattle.mbe_rules.specs.declared.rules_error.ExpandError.{ExpandError}
use Rattle.mbe_rules.specs.declared.macro_rules.Expansion.{Expansion}
use Rattle.mbe_rules.specs.declared.macro_rules.Expansion.TheVariants as expansion
use Rattle.mbe_rules.specs.Arms.{Arm}
use Rattle.mbe_rules.specs.Expansions.{written, IsRefusalWithin, IsExpansion, IsExpansionWithin, IsExpandErrorWithin}
use Rattle.mbe_rules.specs.Limits.{IsOver, IsWithin}
use Rattle.mbe_rules.specs.Results.{IsFirstFault, IsTranscribed, IsTranscribeError, error_of}
use Rattle.mbe_rules.specs.Transcribing.{Transcribed, TranscribeFault, still_repeats, nothing_repeats, lengths_differ, no_round}

-- An input is read in one way.
one_reading : (pattern : Pattern) (input : Forest) (a b : Reading) → IsReadBy pattern input a → IsReadBy pattern input b → a ≡ b
one_reading pattern input a b x y = y.alone a x.holds

not_both : (pattern : Pattern) (input : Forest) (reading : Reading) → IsReadBy pattern input reading → IsAmbiguous pattern input → ⊥
not_both pattern input reading read two = two.differ (read.alone two.one two.one_holds ∙ sym (read.alone two.other two.other_holds))

abbrev expand_error : ℕ → TranscribeError → ExpandError
expand_error arm why = record { arm = arm; fault = why }

-- A pattern stops at one place.
one_place : (pattern : Pattern) (input : Forest) (a b : ℕ) → StopsAt pattern input a → StopsAt pattern input b → a ≡ b
one_place pattern input a b x y = omega (arith, x.least y.left y.comes, y.least x.left x.comes, x.place, y.place)

-- An error that names no limit of trees is that of the one reading of the input.
refused : (most : Option ℕ) (arm : Arm) (input : Forest) (why : TranscribeError) → is_limit why ≡ false → IsRefusalWithin most arm input why
    → (reading : Reading) × IsReadBy arm.pattern input reading × IsTranscribeError most arm.delimiter (written arm reading) why
refused most arm input (error.StillRepeats at) free h = h
refused most arm input (error.NothingRepeats at) free h = h
refused most arm input (error.LengthsDiffer at) free h = h
refused most arm input (error.NoRound at) free h = h
refused most arm input error.OverLimit free h = h
refused most arm input (error.Tree why) free h = absurd (true≢false free)

-- So many tokens exceed a limit or do not.
not_over : (most : Option ℕ) (count : ℕ) → IsOver most count → IsWithin most count → ⊥
not_over None count over within = over
not_over (Some n) count over within = omega (arith, over, within)

-- An error that names no limit of trees is that of a fault of the template, or the limit of tokens.
fault_or_over : (why : TranscribeError) → is_limit why ≡ false → ((fault : TranscribeFault) × (why ≡ error_of fault)) ⊎ (why ≡ error.OverLimit)
fault_or_over (error.StillRepeats at) free = inl (still_repeats at, refl)
fault_or_over (error.NothingRepeats at) free = inl (nothing_repeats at, refl)
fault_or_over (error.LengthsDiffer at) free = inl (lengths_differ at, refl)
fault_or_over (error.NoRound at) free = inl (no_round at, refl)
fault_or_over error.OverLimit free = inr refl
fault_or_over (error.Tree why) free = absurd (true≢false free)

module _ (most : Option ℕ) (delimiter : Delimiter) (it : Transcribed) where
  -- It is the first fault, and the limit of tokens is kept; or that is exceeded.
  first_fault : (why : TranscribeError) (fault : TranscribeFault) → why ≡ error_of fault → IsTranscribeError most delimiter it why
      → IsFirstFault most it.fault (size it.trees) fault
  first_fault why fault is wrong = by fault (subst (IsTranscribeError most delimiter it) is wrong)
    where
      by : (fault : TranscribeFault) → IsTranscribeError most delimiter it (error_of fault) → IsFirstFault most it.fault (size it.trees) fault
      by (still_repeats at) first = first
      by (nothing_repeats at) first = first
      by (lengths_differ at) first = first
      by (no_round at) first = first

  over_most : (why : TranscribeError) → why ≡ error.OverLimit → IsTranscribeError most delimiter it why → IsOver most (size it.trees)
  over_most why is over = subst (IsTranscribeError most delimiter it) is over

  -- A template that is filled within the limit has no error.
  filled_only : (tree : Root) (why : TranscribeError) → is_limit why ≡ false → IsTranscribed delimiter it tree → IsWithin most (size tree.children)
      → IsTranscribeError most delimiter it why → ⊥
  filled_only tree why free is within wrong = by (fault_or_over why free)
    where
      by : ((fault : TranscribeFault) × (why ≡ error_of fault)) ⊎ (why ≡ error.OverLimit) → ⊥
      by (inl (fault, same)) = cc (sym is.sound ∙ (first_fault why fault same wrong).0)
      by (inr same) = not_over most (size it.trees) (over_most why same wrong) (subst (IsWithin most) (ap (λ t. size t.children) is.is) within)

  -- A template has one error.
  one_refusal : (a b : TranscribeError) → is_limit a ≡ false → is_limit b ≡ false → IsTranscribeError most delimiter it a → IsTranscribeError most delimiter it b → a ≡ b
  one_refusal a b free none h k = by (fault_or_over a free) (fault_or_over b none)
    where
      by : ((fault : TranscribeFault) × (a ≡ error_of fault)) ⊎ (a ≡ error.OverLimit) → ((fault : TranscribeFault) × (b ≡ error_of fault)) ⊎ (b ≡ error.OverLimit) → a ≡ b
      by (inl (fault, is)) (inl (other, was)) =
          let both : Some fault ≡ Some other = sym (first_fault a fault is h).0 ∙ (first_fault b other was k).0 in
          let same : fault ≡ other = cc both in
          is ∙ ap error_of same ∙ sym was
      by (inl (fault, is)) (inr over) = absurd (not_over most (size it.trees) (over_most b over k) (first_fault a fault is h).2)
      by (inr over) (inl (fault, is)) = absurd (not_over most (size it.trees) (over_most a over h) (first_fault b fault is k).2)
      by (inr over) (inr again) = over ∙ sym again

-- Arms expand an input to one thing.
pub one_expansion : (arms : List Arm) (number farthest : ℕ) (input : Forest) (a b : Expansion) → IsExpansion arms number farthest input a → IsExpansion arms number farthest input b → a ≡ b
one_expansion [] number farthest input (expansion.NoMatch x) (expansion.NoMatch y) h k = ap expansion.NoMatch (h ∙ sym k)
one_expansion [] number farthest input (expansion.NoMatch x) (expansion.Ambiguous n) h k = absurd k
one_expansion [] number farthest input (expansion.NoMatch x) (expansion.Tree t) h k = absurd k
one_expansion [] number farthest input (expansion.Ambiguous n) b h k = absurd h
one_expansion [] number farthest input (expansion.Tree t) b h k = absurd h
one_expansion (arm ∷ others) number farthest input a b (inl (at, none, h)) (inl (place, again, k)) =
    let same = one_place arm.pattern input place at again.1 none.1 in
    one_expansion others (suc number) (max farthest at) input a b h (subst (λ n. IsExpansion others (suc number) (max farthest n) input b) same k)
one_expansion (arm ∷ others) number farthest input a (expansion.NoMatch y) (inl (at, none, h)) (inr k) = absurd k
one_expansion (arm ∷ others) number farthest input a (expansion.Ambiguous n) (inl (at, none, h)) (inr k) = absurd (none.0 k.1.one k.1.one_holds)
one_expansion (arm ∷ others) number farthest input a (expansion.Tree t) (inl (at, none, h)) (inr (reading, read, is)) = absurd (none.0 reading read.holds)
one_expansion (arm ∷ others) number farthest input (expansion.NoMatch x) b (inr h) k = absurd h
one_expansion (arm ∷ others) number farthest input (expansion.Ambiguous n) b (inr h) (inl (at, none, k)) = absurd (none.0 h.1.one h.1.one_holds)
one_expansion (arm ∷ others) number farthest input (expansion.Ambiguous n) (expansion.NoMatch y) (inr h) (inr k) = absurd k
one_expansion (arm ∷ others) number farthest input (expansion.Ambiguous n) (expansion.Ambiguous m) (inr h) (inr k) = ap expansion.Ambiguous (h.0 ∙ sym k.0)
one_expansion (arm ∷ others) number farthest input (expansion.Ambiguous n) (expansion.Tree t) (inr h) (inr (reading, read, is)) =
    absurd (not_both arm.pattern input reading read h.1)
one_expansion (arm ∷ others) number farthest input (expansion.Tree t) b (inr (reading, read, is)) (inl (at, none, k)) = absurd (none.0 reading read.holds)
one_expansion (arm ∷ others) number farthest input (expansion.Tree t) (expansion.NoMatch y) (inr (reading, read, is)) (inr k) = absurd k
one_expansion (arm ∷ others) number farthest input (expansion.Tree t) (expansion.Ambiguous m) (inr (reading, read, is)) (inr k) =
    absurd (not_both arm.pattern input reading read k.1)
one_expansion (arm ∷ others) number farthest input (expansion.Tree s) (expansion.Tree t) (inr (reading, read, is)) (inr (other, again, was)) =
    ap expansion.Tree (is.is ∙ ap (λ r. under arm.delimiter (written arm r).trees) (one_reading arm.pattern input reading other read again) ∙ sym was.is)

module _ (most : Option ℕ) (input : Forest) where
  -- Arms that expand an input within the limit give no error.
  pub no_error : (arms : List Arm) (number farthest : ℕ) (a : Expansion) (b : ExpandError) → IsExpansion arms number farthest input a → IsExpansionWithin most a
      → IsExpandErrorWithin most arms number input b → is_limit b.fault ≡ false → ⊥
  no_error [] number farthest a b h within k free = k
  no_error (arm ∷ others) number farthest a b (inl (at, none, h)) within (inl (again, k)) free = no_error others (suc number) (max farthest at) a b h within k free
  no_error (arm ∷ others) number farthest a b (inl (at, none, h)) within (inr (is, k)) free =
      let it = refused most arm input b.fault free k in
      none.0 it.0 it.1.holds
  no_error (arm ∷ others) number farthest (expansion.NoMatch x) b (inr h) within k free = h
  no_error (arm ∷ others) number farthest (expansion.Ambiguous n) b (inr h) within (inl (none, k)) free = none h.1.one h.1.one_holds
  no_error (arm ∷ others) number farthest (expansion.Ambiguous n) b (inr h) within (inr (is, k)) free =
      let it = refused most arm input b.fault free k in
      not_both arm.pattern input it.0 it.1 h.1
  no_error (arm ∷ others) number farthest (expansion.Tree t) b (inr (reading, read, filled)) within (inl (none, k)) free = none reading read.holds
  no_error (arm ∷ others) number farthest (expansion.Tree t) b (inr (reading, read, filled)) within (inr (is, k)) free =
      let it = refused most arm input b.fault free k in
      filled_only most arm.delimiter (written arm reading) t b.fault free filled within
      (subst (λ r. IsTranscribeError most arm.delimiter (written arm r) b.fault) (one_reading arm.pattern input it.0 reading it.1 read) it.2)

  -- Arms give one error.
  pub one_error : (arms : List Arm) (number : ℕ) (a b : ExpandError) → IsExpandErrorWithin most arms number input a → IsExpandErrorWithin most arms number input b
      → is_limit a.fault ≡ false → is_limit b.fault ≡ false → a ≡ b
  one_error [] number a b h k free none = absurd h
  one_error (arm ∷ others) number a b (inl (x, h)) (inl (y, k)) free none = one_error others (suc number) a b h k free none
  one_error (arm ∷ others) number a b (inl (x, h)) (inr (was, k)) free none =
      let it = refused most arm input b.fault none k in
      absurd (x it.0 it.1.holds)
  one_error (arm ∷ others) number a b (inr (is, h)) (inl (y, k)) free none =
      let it = refused most arm input a.fault free h in
      absurd (y it.0 it.1.holds)
  one_error (arm ∷ others) number a b (inr (is, h)) (inr (was, k)) free none =
      let it = refused most arm input a.fault free h in
      let other = refused most arm input b.fault none k in
      let same = one_refusal most arm.delimiter (written arm it.0) a.fault b.fault free none it.2
      (subst (λ r. IsTranscribeError most arm.delimiter (written arm r) b.fault) (one_reading arm.pattern input other.0 it.0 other.1 it.1) other.2) in
      ap₂ expand_error (is ∙ sym was) same
