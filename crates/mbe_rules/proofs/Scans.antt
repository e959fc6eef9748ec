-- What a scan of a repetition's parts finds is what its template says.
use Rattle.std.proofs.Common.{◌≡◌, ℕ, suc, Bool, true, false, List, [], ◌∷◌, ◌++◌, Option, Some, None, Err, refl, ap, sym, ◌∙◌, cond, append_assoc}
use Rattle.std.proofs.lemmas.List.{append-nil}
use Rattle.std.specs.Prelude.{nat_eq, slice_get}
use Rattle.mbe_pattern.specs.declared.pattern.RepeatKind.{RepeatKind}
use Rattle.mbe_matcher.specs.Bindings.{Bound, one, none, first, Named, Binding}
use Rattle.tt.specs.Forest.{Forest, end}
use Rattle.tt.specs.Types.Leaf.{Leaf}
use Rattle.mbe_rules.specs.Enclosing.{as_piece}
use Rattle.mbe_rules.specs.declared.counting.Count.{Count}
use Rattle.mbe_rules.specs.declared.counting.Count.TheVariants.{Unknown, Same, Differ}
use Rattle.mbe_rules.specs.Counting.{counted_with, counted_all, counts_seen, rounds_by, uses_before, kind_before, behind_close}
use Rattle.mbe_rules.specs.Transcribing.{still_repeats, lengths_differ, all_transcribed, faulted, bound_transcribed, use_transcribed, enough, are_all, rounds_of, used_in, count_in, count_of, counts_of}
use Rattle.mbe_rules.specs.Parts.{Bit, leave, close, bits_of}
use Rattle.mbe_rules.specs.Rounds.{trees, rounds, seen_of, seen_at, fragment_of}
use Rattle.mbe_rules.specs.Templates.{Template, nothing, use_of, token, subtree, repetition}

-- The uses of a template, before others.
uses_of_parts : (n : ℕ) (template : Template) (behind : List Bit) → uses_before n (bits_of template behind) ≡ used_in template ++ uses_before n behind
uses_of_parts n nothing behind = refl
uses_of_parts n (use_of at variable less_follows others) behind = ap (λ l. variable ∷ l) (uses_of_parts n others behind)
uses_of_parts n (token it others) behind = uses_of_parts n others behind
uses_of_parts n (subtree delimiter inner others) behind =
    uses_of_parts n inner (leave ∷ bits_of others behind)
    ∙ ap (λ l. used_in inner ++ l) (uses_of_parts n others behind)
    ∙ sym (append_assoc (used_in inner) (used_in others) (uses_before n behind))
uses_of_parts n (repetition at inner separator kind others) behind =
    uses_of_parts (suc n) inner (close separator kind ∷ bits_of others behind)
    ∙ ap (λ l. used_in inner ++ l) (uses_of_parts n others behind)
    ∙ sym (append_assoc (used_in inner) (used_in others) (uses_before n behind))

-- It has no end of a repetition outside of it.
kind_of_parts : (n : ℕ) (template : Template) (behind : List Bit) → kind_before n (bits_of template behind) ≡ kind_before n behind
kind_of_parts n nothing behind = refl
kind_of_parts n (use_of at variable less_follows others) behind = kind_of_parts n others behind
kind_of_parts n (token it others) behind = kind_of_parts n others behind
kind_of_parts n (subtree delimiter inner others) behind = kind_of_parts n inner (leave ∷ bits_of others behind) ∙ kind_of_parts n others behind
kind_of_parts n (repetition at inner separator kind others) behind =
    kind_of_parts (suc n) inner (close separator kind ∷ bits_of others behind) ∙ kind_of_parts n others behind

behind_parts : (n : ℕ) (template : Template) (behind : List Bit) → behind_close n (bits_of template behind) ≡ behind_close n behind
behind_parts n nothing behind = refl
behind_parts n (use_of at variable less_follows others) behind = behind_parts n others behind
behind_parts n (token it others) behind = behind_parts n others behind
behind_parts n (subtree delimiter inner others) behind = behind_parts n inner (leave ∷ bits_of others behind) ∙ behind_parts n others behind
behind_parts n (repetition at inner separator kind others) behind =
    behind_parts (suc n) inner (close separator kind ∷ bits_of others behind) ∙ behind_parts n others behind

module _ (inner : Template) (separator : List Leaf) (kind : RepeatKind) (behind : List Bit) where
  -- So these are the repetition's: its uses, its kind, and what follows it.
  pub scanned_uses : uses_before 0 (bits_of inner (close separator kind ∷ behind)) ≡ used_in inner
  scanned_uses = uses_of_parts 0 inner (close separator kind ∷ behind) ∙ append-nil (used_in inner)

  pub scanned_kind : kind_before 0 (bits_of inner (close separator kind ∷ behind)) ≡ kind
  scanned_kind = kind_of_parts 0 inner (close separator kind ∷ behind)

  pub scanned_behind : behind_close 0 (bits_of inner (close separator kind ∷ behind)) ≡ behind
  scanned_behind = behind_parts 0 inner (close separator kind ∷ behind)

-- Some numbers, and then others.
pub counted_both : (xs ys : List ℕ) (count : Count) → counted_all (xs ++ ys) count ≡ counted_all ys (counted_all xs count)
counted_both [] ys count = refl
counted_both (n ∷ xs) ys count = counted_both xs ys (counted_with n count)

differ_stays : (its : List ℕ) → counted_all its Differ ≡ Differ
differ_stays [] = refl
differ_stays (n ∷ its) = differ_stays its

same_stays : (n : ℕ) (its : List ℕ) → counted_all its (Same n) ≡ cond (are_all n its) (Same n) Differ
same_stays n [] = refl
same_stays n (m ∷ its) = by (nat_eq m n) (same_stays n its)
  where
    by : (b : Bool) → counted_all its (Same n) ≡ cond (are_all n its) (Same n) Differ
        → counted_all its (cond b (Same n) Differ) ≡ cond (cond b (are_all n its) false) (Same n) Differ
    by true all = all
    by false all = differ_stays its

-- How often a repetition is filled, from the counted numbers of rounds.
pub rounds_counted : (at : ℕ) (kind : RepeatKind) (its : List ℕ) → rounds_of at kind its ≡ rounds_by at kind (counted_all its Unknown)
rounds_counted at kind [] = refl
rounds_counted at kind (n ∷ its) = by (are_all n its) ∙ sym (ap (rounds_by at kind) (same_stays n its))
  where
    by : (b : Bool) → cond b (enough at kind n) (Err (lengths_differ at)) ≡ rounds_by at kind (cond b (Same n) Differ)
    by true = refl
    by false = refl

-- What is seen of a variable is how many rounds it has, or its trees.
bound_counted : (bound : Bound) → counts_seen (seen_of bound) ≡ count_in bound
bound_counted (one its) = refl
bound_counted none = refl
bound_counted (first it others) = refl

pub seen_counted : (it : Option Named) → counts_seen (seen_at it) ≡ count_of it
seen_counted None = refl
seen_counted (Some it) = bound_counted it.bound

-- If trees are seen, a use becomes them; if rounds are seen, it still repeats.
pub used_trees : (at : ℕ) (less_follows : Bool) (it : Option Named) (its : Forest) → seen_at it ≡ trees its
    → use_transcribed at less_follows it ≡ all_transcribed (as_piece (fragment_of it) less_follows its)
used_trees at less_follows None its is = ap (λ f. all_transcribed (as_piece None less_follows f)) same
  where
    same : end ≡ its
    same = cc is
used_trees at less_follows (Some it) its is = by it.bound is
  where
    by : (bound : Bound) → seen_of bound ≡ trees its
        → bound_transcribed at less_follows it.variable.fragment bound ≡ all_transcribed (as_piece (Some it.variable.fragment) less_follows its)
    by (one others) is = let same : others ≡ its = cc is in ap (λ f. all_transcribed (as_piece (Some it.variable.fragment) less_follows f)) same
    by none is = absurd (cc is)
    by (first this others) is = absurd (cc is)

pub used_rounds : (at : ℕ) (less_follows : Bool) (it : Option Named) (n : ℕ) → seen_at it ≡ rounds n
    → use_transcribed at less_follows it ≡ faulted (still_repeats at)
used_rounds at less_follows None n is = absurd (cc is)
used_rounds at less_follows (Some it) n is = by it.bound is
  where
    by : (bound : Bound) → seen_of bound ≡ rounds n → bound_transcribed at less_follows it.variable.fragment bound ≡ faulted (still_repeats at)
    by (one others) is = absurd (cc is)
    by none is = refl
    by (first this others) is = refl

-- One more use is counted.
pub counted_use : (binding : Binding) (variable : ℕ) (others : List ℕ) (count : Count)
    → counted_all (counts_of binding others) (counted_all (count_of (slice_get binding variable)) count) ≡ counted_all (counts_of binding (variable ∷ others)) count
counted_use binding variable others count = sym (counted_both (count_of (slice_get binding variable)) (counts_of binding others) count)
