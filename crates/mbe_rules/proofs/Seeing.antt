-- What is bound in nested rounds, seen repetition by repetition.
use Rattle.std.proofs.Common.{◌≡◌, ◌+◌, ◌<◌, ◌≤◌, ℕ, zero, suc, List, [], ◌∷◌, ◌++◌, map, length, drop, get_or, Some, None, refl, ap, ap₂, sym, subst, ◌∙◌, arith}
use Rattle.std.proofs.lemmas.List.{length-map}
use Rattle.std.proofs.lemmas.Option.{slice_get-map}
use Rattle.std.specs.Prelude.{Option, option_map, slice_get}
use Rattle.tt.specs.Forest.{Forest}
use Rattle.tt.specs.Views.{trees_of}
use Rattle.mbe_matcher.specs.Bindings.{Bound, one, none, Named, Binding}
use Rattle.mbe_matcher.specs.Ends.{sums}
use Rattle.mbe_matcher.specs.Grouping.{grouped}
use Rattle.mbe_rules.specs.declared.taken.Round.{Round}
use Rattle.mbe_rules.specs.declared.taken.Taken.{Taken}
use Rattle.mbe_rules.specs.Transcribing.{in_round}
use Rattle.mbe_rules.specs.Rounds.{bound_in, binding_in, dones, rounds, seen_of, fragment_of, time_seen, nested, IsTaken, IsTakenBy, AreTaken, first_at, count_at, times_in, times_at}
use Rattle.mbe_rules.proofs.Nesting.{seen_rounds, in_one, in_none, seen_trees_at, first_is}

module _ {A B : Type 0} (f : A → B) where
  -- The value at an index of a mapped list.
  pub made_at : (its : List A) (n : ℕ) (x : B) → slice_get (map f its) n ≡ Some x → (y : A) × (x ≡ f y) × (drop n its ≡ y ∷ drop (suc n) its)
  made_at [] zero x is = absurd (cc is)
  made_at [] (suc n) x is = absurd (cc is)
  made_at (it ∷ its) zero x is = (it, cc is, refl)
  made_at (it ∷ its) (suc n) x is = made_at its n x is

  pub none_made : (its : List A) (n : ℕ) → slice_get (map f its) n ≡ None → drop n its ≡ []
  none_made [] zero is = refl
  none_made [] (suc n) is = refl
  none_made (it ∷ its) zero is = absurd (cc is)
  none_made (it ∷ its) (suc n) is = none_made its n is

  pub drop_made : (its : List A) (n : ℕ) (x : A) → slice_get its n ≡ Some x → drop n (map f its) ≡ f x ∷ drop (suc n) (map f its)
  drop_made [] zero x is = absurd (cc is)
  drop_made [] (suc n) x is = absurd (cc is)
  drop_made (it ∷ its) zero x is = ap (λ y. f y ∷ map f its) (cc is)
  drop_made (it ∷ its) (suc n) x is = drop_made its n x is

  pub drop_none : (its : List A) (n : ℕ) → slice_get its n ≡ None → drop n (map f its) ≡ []
  drop_none [] zero is = refl
  drop_none [] (suc n) is = refl
  drop_none (it ∷ its) zero is = absurd (cc is)
  drop_none (it ∷ its) (suc n) is = drop_none its n is

length_sums : (so_far : ℕ) (counts : List ℕ) → length (sums so_far counts) ≡ length counts
length_sums so_far [] = refl
length_sums so_far (n ∷ counts) = ap suc (length_sums (so_far + n) counts)

length_grouped : (counts : List ℕ) (its : List Bound) → length (grouped counts its) ≡ length counts
length_grouped [] its = refl
length_grouped (n ∷ counts) its = ap suc (length_grouped counts (drop n its))

-- How many times a repetition at that depth occurred.
times_counted : (counts : List (List ℕ)) (its : List Forest) (n : ℕ) → times_in (slice_get (map (sums 0) counts) n) (length its) ≡ length (nested (drop n counts) its)
times_counted [] its zero = sym (length-map its one)
times_counted [] its (suc n) = sym (length-map its one)
times_counted (c ∷ counts) its zero = length_sums 0 c ∙ sym (length_grouped c (nested counts its))
times_counted (c ∷ counts) its (suc n) = times_counted counts its n

module _ (self : Taken) (bound : Bound) (taken : IsTaken bound self) (begun : List Round) where
  -- the trees that were taken
  abbrev its : List Forest
  its = map trees_of self.trees.items

  -- what is bound in the rounds that are passed is at that index
  abbrev pub Here : (depth time : ℕ) → Type 0
  Here depth time = bound_in (dones begun) bound ≡ bound_in (drop depth (dones begun)) (get_or (nested (drop depth taken.counts) its) time none)

  times_are : (n : ℕ) → times_at n self ≡ length (nested (drop n taken.counts) its)
  times_are n =
      ap₂ (λ l m. times_in (slice_get l n) m) taken.ends (sym (length-map self.trees.items trees_of)) ∙ times_counted taken.counts its n

  module _ (depth time : ℕ) (next : ℕ) (more : next ≡ suc depth) (here : Here depth time) (ends : List ℕ) (some : slice_get (map (λ v. v.items) self.ends.items) depth ≡ Some ends) (count : ℕ)
      (counted : count ≡ count_at ends time (times_at next self)) where
    -- the numbers of rounds of this repetition
    counts_here : (c : List ℕ) × (ends ≡ sums 0 c) × (drop depth taken.counts ≡ c ∷ drop (suc depth) taken.counts)
    counts_here = made_at (sums 0) taken.counts depth ends (ap (λ l. slice_get l depth) (sym taken.ends) ∙ some)

    -- what is in it
    abbrev below : List Bound
    below = nested (drop (suc depth) taken.counts) its

    here_in : (numbers : List ℕ) → drop depth (dones begun) ≡ numbers → bound_in (dones begun) bound ≡ bound_in numbers (get_or (grouped (counts_here.0) below) time none)
    here_in numbers is = here ∙ ap₂ (λ l c. bound_in l (get_or (nested c its) time none)) is (counts_here.2)

    count_is : count ≡ count_at (sums 0 (counts_here.0)) time (length below)
    count_is = counted ∙ ap₂ (λ e n. count_at e time n) (counts_here.1) (ap (λ n. times_at n self) more ∙ times_are (suc depth))

    -- No round of it is under way.
    pub not_begun : slice_get begun depth ≡ None → rounds count ≡ seen_of (bound_in (dones begun) bound)
    not_begun none_there =
        ap rounds count_is ∙ sym (seen_rounds below (counts_here.0) time)
        ∙ sym (ap seen_of (here_in [] (drop_none (λ r. r.done) begun depth none_there)))

    module _ (it : Round) (there : slice_get begun depth ≡ Some it) where
      -- the rounds from this one on
      from_here : drop depth (dones begun) ≡ it.done ∷ drop (suc depth) (dones begun)
      from_here = drop_made (λ r. r.done) begun depth it there

      -- There is no such round.
      pub no_such : count ≤ it.done → rounds 0 ≡ seen_of (bound_in (dones begun) bound)
      no_such past =
          sym (in_none below (counts_here.0) time it.done (drop (suc depth) (dones begun)) (omega (arith, past, count_is)))
          ∙ sym (ap seen_of (here_in (it.done ∷ drop (suc depth) (dones begun)) from_here))

      -- There is such a round.
      pub such : it.done < count → Here next (first_at ends time + it.done)
      such within =
          here_in (it.done ∷ drop (suc depth) (dones begun)) from_here
          ∙ in_one below (counts_here.0) time it.done (drop (suc depth) (dones begun)) (omega (arith, within, count_is))
          ∙ ap (λ e. bound_in (drop (suc depth) (dones begun)) (get_or below (first_at e time + it.done) none)) (sym (counts_here.1))
          ∙ ap (λ n. bound_in (drop n (dones begun)) (get_or (nested (drop n taken.counts) its) (first_at ends time + it.done) none)) (sym more)

  -- All repetitions are passed.
  pub all_passed : (depth time : ℕ) → Here depth time → slice_get (map (λ v. v.items) self.ends.items) depth ≡ None
      → time_seen (slice_get its time) ≡ seen_of (bound_in (dones begun) bound)
  all_passed depth time here none_left =
      sym (seen_trees_at (drop depth (dones begun)) its time)
      ∙ ap (λ c. seen_of (bound_in (drop depth (dones begun)) (get_or (nested c its) time none)))
      (sym (none_made (sums 0) taken.counts depth (ap (λ l. slice_get l depth) (sym taken.ends) ∙ none_left)))
      ∙ sym (ap seen_of here)

-- At the beginning nothing is passed.
pub first_here : (self : Taken) (bound : Bound) (taken : IsTaken bound self) (begun : List Round) → Here self bound taken begun 0 0
first_here self bound taken begun = ap (bound_in (dones begun)) (taken.is ∙ first_is (nested taken.counts (map trees_of self.trees.items)))

-- One more variable.
pub taken_more : (binding : Binding) (its : List Taken) (named : Named) (it : Taken) → AreTaken binding its → IsTakenBy named it
    → AreTaken (binding ++ named ∷ []) (its ++ it ∷ [])
taken_more [] [] named it are is = (is, tt)
taken_more [] (other ∷ its) named it are is = absurd are
taken_more (more ∷ binding) [] named it are is = absurd are
taken_more (more ∷ binding) (other ∷ its) named it are is = (are.0, taken_more binding its named it (are.1) is)

-- What is bound to each variable is seen.
pub taken_at : (binding : Binding) (its : List Taken) (number : ℕ) (it : Taken) → AreTaken binding its → slice_get its number ≡ Some it
    → (named : Named) × (slice_get binding number ≡ Some named) × IsTakenBy named it
taken_at [] [] zero it are is = absurd (cc is)
taken_at [] [] (suc number) it are is = absurd (cc is)
taken_at [] (other ∷ its) number it are is = absurd are
taken_at (named ∷ binding) [] number it are is = absurd are
taken_at (named ∷ binding) (other ∷ its) zero it are is = (named, refl, subst (IsTakenBy named) (cc is) (are.0))
taken_at (named ∷ binding) (other ∷ its) (suc number) it are is = taken_at binding its number it (are.1) is

pub none_at : (binding : Binding) (its : List Taken) (number : ℕ) → AreTaken binding its → slice_get its number ≡ None → slice_get binding number ≡ None
none_at [] [] zero are is = refl
none_at [] [] (suc number) are is = refl
none_at [] (other ∷ its) number are is = absurd are
none_at (named ∷ binding) [] number are is = absurd are
none_at (named ∷ binding) (other ∷ its) zero are is = absurd (cc is)
none_at (named ∷ binding) (other ∷ its) (suc number) are is = none_at binding its number (are.1) is

-- In a round, a variable still has its fragment.
pub fragment_here : (numbers : List ℕ) (binding : Binding) (number : ℕ) → fragment_of (slice_get (binding_in numbers binding) number) ≡ fragment_of (slice_get binding number)
fragment_here numbers binding number =
    ap fragment_of (slice_get-map (in_round (bound_in numbers)) binding number) ∙ by (slice_get binding number)
  where
    by : (it : Option Named) → fragment_of (option_map (in_round (bound_in numbers)) it) ≡ fragment_of it
    by None = refl
    by (Some it) = refl
