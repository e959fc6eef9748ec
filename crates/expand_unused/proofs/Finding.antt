-- What is needed, as the search goes on.
use Rattle.std.proofs.Common.{◌≡◌, ◌⊎◌, ◌++◌, ℕ, Bool, true, false, List, [], ◌∷◌, Option, None, Some, inl, inr, refl, ap, sym, subst, ◌∙◌, cond}
use Rattle.std.specs.Prelude.{bytes_eq, is_some}
use Rattle.std.proofs.lemmas.Slice.Eq.{bytes_eq-Decides}
use Rattle.expand_unused.specs.Needing.{IsAmong, Needed, outside, inside, IsRight, AreRight}
use Rattle.expand_unused.specs.Parts.{Part, word, rules, Rules}
use Rattle.expand_unused.specs.Waiting.{words_of, words_outside, IsWaiting, IsBetween}

module _ {A : Type 0} where
  pub among_left : (it : A) (xs ys : List A) → IsAmong it xs → IsAmong it (xs ++ ys)
  among_left it [] ys is = absurd is
  among_left it (x ∷ xs) ys (inl is) = inl is
  among_left it (x ∷ xs) ys (inr is) = inr (among_left it xs ys is)

  pub among_right : (it : A) (xs ys : List A) → IsAmong it ys → IsAmong it (xs ++ ys)
  among_right it [] ys is = is
  among_right it (x ∷ xs) ys is = inr (among_right it xs ys is)

  pub among_either : (it : A) (xs ys : List A) → IsAmong it (xs ++ ys) → IsAmong it xs ⊎ IsAmong it ys
  among_either it [] ys is = inr is
  among_either it (x ∷ xs) ys (inl is) = inl (inl is)
  among_either it (x ∷ xs) ys (inr is) = by (among_either it xs ys is)
    where
      by : IsAmong it xs ⊎ IsAmong it ys → IsAmong it (x ∷ xs) ⊎ IsAmong it ys
      by (inl there) = inl (inr there)
      by (inr there) = inr there

-- The words outside are those that occur there.
outside_there : (text : List ℕ) (parts : List Part) → IsAmong (word text) parts → IsAmong text (words_outside parts)
outside_there text [] is = absurd is
outside_there text (word it ∷ more) (inl is) = inl (same is)
  where
    same : word it ≡ word text → it ≡ text
    same e = cc e
outside_there text (word it ∷ more) (inr is) = inr (outside_there text more is)
outside_there text (rules it ∷ more) (inl is) = absurd (cc is)
outside_there text (rules it ∷ more) (inr is) = outside_there text more is

outside_only : (text : List ℕ) (parts : List Part) → IsAmong text (words_outside parts) → IsAmong (word text) parts
outside_only text [] is = absurd is
outside_only text (word it ∷ more) (inl is) = inl (ap word is)
outside_only text (word it ∷ more) (inr is) = inr (outside_only text more is)
outside_only text (rules it ∷ more) is = inr (outside_only text more is)

module _ (parts : List Part) (waiting : List ℕ → Option (List (List ℕ))) where
  -- At first all definitions wait.
  pub first_between : IsWaiting parts waiting → IsBetween parts waiting (words_outside parts)
  first_between it =
      record {
        sound = λ name is. outside (outside_only name parts is);
        gone = λ r among none. absurd (it.there r among none);
        outside = λ name is. inl (outside_there name parts is);
        inside = λ r name among none is. absurd (it.there r among none);
        all = λ r text among is. inr (it.all r text among is);
        others = it.others;
      }

  -- In the end no needed name waits.
  module _ (it : IsBetween parts waiting []) where
    needed_gone : {name : List ℕ} → Needed parts name → waiting name ≡ None
    needed_gone {name} (outside among) = by (it.outside name among)
      where
        by : IsAmong name [] ⊎ (waiting name ≡ None) → waiting name ≡ None
        by (inl is) = absurd is
        by (inr is) = is
    needed_gone {name} (inside r among needed is) = by (it.inside r name among (needed_gone needed) is)
      where
        by : IsAmong name [] ⊎ (waiting name ≡ None) → waiting name ≡ None
        by (inl is) = absurd is
        by (inr is) = is

    pub last_right : AreRight (λ name. is_some (waiting name)) parts
    last_right r among = by (waiting r.name) refl
      where
        by : (found : Option (List (List ℕ))) → waiting r.name ≡ found → IsRight (is_some found) (Needed parts r.name)
        by None is = it.gone r among is
        by (Some words) is = λ needed. absurd (cc (sym is ∙ needed_gone needed))

  -- A needed name waits no more, and what waits under it is needed.
  module _ (needed : List (List ℕ)) (name : List ℕ) (next : List ℕ → Option (List (List ℕ))) (it : IsBetween parts waiting (needed ++ name ∷ []))
      (removed : (other : List ℕ) → next other ≡ cond (bytes_eq name other) None (waiting other)) where
    -- it is that name, or nothing changes
    same_or : (other : List ℕ) → ((name ≡ other) × (next other ≡ None)) ⊎ (next other ≡ waiting other)
    same_or other = by (bytes_eq name other) (bytes_eq-Decides name other).0 (removed other)
      where
        by : (same : Bool) → (same ≡ true → name ≡ other) → next other ≡ cond same None (waiting other)
            → ((name ≡ other) × (next other ≡ None)) ⊎ (next other ≡ waiting other)
        by true same is = inl (same refl, is)
        by false same is = inr is

    still_gone : (other : List ℕ) → waiting other ≡ None → next other ≡ None
    still_gone other none = by (same_or other)
      where
        by : ((name ≡ other) × (next other ≡ None)) ⊎ (next other ≡ waiting other) → next other ≡ None
        by (inl is) = is.1
        by (inr is) = is ∙ none

    name_gone : next name ≡ None
    name_gone = removed name ∙ ap (λ b. cond b None (waiting name)) ((bytes_eq-Decides name name).1 refl)

    -- what was needed or gone still is
    either : (other : List ℕ) → IsAmong other (needed ++ name ∷ []) ⊎ (waiting other ≡ None) → IsAmong other (needed ++ words_of (waiting name)) ⊎ (next other ≡ None)
    either other (inr none) = inr (still_gone other none)
    either other (inl is) = by (among_either other needed (name ∷ []) is)
      where
        by : IsAmong other needed ⊎ IsAmong other (name ∷ []) → IsAmong other (needed ++ words_of (waiting name)) ⊎ (next other ≡ None)
        by (inl there) = inl (among_left other needed (words_of (waiting name)) there)
        by (inr (inl same)) = inr (subst (λ n. next n ≡ None) same name_gone)
        by (inr (inr none)) = absurd none

    name_needed : Needed parts name
    name_needed = it.sound name (among_right name needed (name ∷ []) (inl refl))

    pub next_between : IsBetween parts next (needed ++ words_of (waiting name))
    next_between =
        record {
          sound = λ other is. sound other (among_either other needed (words_of (waiting name)) is);
          gone = λ r among none. gone r among none (same_or r.name);
          outside = λ other is. either other (it.outside other is);
          inside = λ r other among none is. held r other among none is (same_or r.name);
          all = λ r text among is. all r text among is (same_or r.name);
          others = λ other text is. others other text is (same_or other);
        }
      where
        sound : (other : List ℕ) → IsAmong other needed ⊎ IsAmong other (words_of (waiting name)) → Needed parts other
        sound other (inl is) = it.sound other (among_left other needed (name ∷ []) is)
        sound other (inr is) =
            let (r, among, called, there) = it.others name other is in inside r among (subst (Needed parts) (sym called) name_needed) there

        gone : (r : Rules) → IsAmong (rules r) parts → next r.name ≡ None → ((name ≡ r.name) × (next r.name ≡ None)) ⊎ (next r.name ≡ waiting r.name) → Needed parts r.name
        gone r among none (inl is) = subst (Needed parts) is.0 name_needed
        gone r among none (inr is) = it.gone r among (sym is ∙ none)

        held : (r : Rules) (other : List ℕ) → IsAmong (rules r) parts → next r.name ≡ None → IsAmong other r.inside
            → ((name ≡ r.name) × (next r.name ≡ None)) ⊎ (next r.name ≡ waiting r.name)
            → IsAmong other (needed ++ words_of (waiting name)) ⊎ (next other ≡ None)
        held r other among none is (inr same) = either other (it.inside r other among (sym same ∙ none) is)
        held r other among none is (inl same) = by (it.all r other among is)
          where
            by : (waiting r.name ≡ None) ⊎ IsAmong other (words_of (waiting r.name)) → IsAmong other (needed ++ words_of (waiting name)) ⊎ (next other ≡ None)
            by (inl was) = either other (it.inside r other among was is)
            by (inr there) = inl (among_right other needed (words_of (waiting name)) (subst (λ n. IsAmong other (words_of (waiting n))) (sym same.0) there))

        all : (r : Rules) (text : List ℕ) → IsAmong (rules r) parts → IsAmong text r.inside → ((name ≡ r.name) × (next r.name ≡ None)) ⊎ (next r.name ≡ waiting r.name)
            → (next r.name ≡ None) ⊎ IsAmong text (words_of (next r.name))
        all r text among is (inl same) = inl same.1
        all r text among is (inr same) = by (it.all r text among is)
          where
            by : (waiting r.name ≡ None) ⊎ IsAmong text (words_of (waiting r.name)) → (next r.name ≡ None) ⊎ IsAmong text (words_of (next r.name))
            by (inl none) = inl (same ∙ none)
            by (inr there) = inr (subst (λ w. IsAmong text (words_of w)) (sym same) there)

        others : (other text : List ℕ) → IsAmong text (words_of (next other)) → ((name ≡ other) × (next other ≡ None)) ⊎ (next other ≡ waiting other)
            → (r : Rules) × IsAmong (rules r) parts × (r.name ≡ other) × IsAmong text r.inside
        others other text is (inl same) = absurd (subst (λ w. IsAmong text (words_of w)) same.1 is)
        others other text is (inr same) = it.others other text (subst (λ w. IsAmong text (words_of w)) same is)

-- Without definitions nothing waits.
pub none_waiting : IsWaiting [] (λ name. None)
none_waiting = record { there = λ r among none. absurd among; all = λ r text among is. absurd among; others = λ name text is. absurd is }

module _ (parts : List Part) (waiting : List ℕ → Option (List (List ℕ))) (it : IsWaiting parts waiting) where
  -- One word more changes nothing.
  pub waits_word : (text : List ℕ) → IsWaiting (parts ++ word text ∷ []) waiting
  waits_word text =
      record {
        there = λ r among none. it.there r (before r among) none;
        all = λ r other among is. it.all r other (before r among) is;
        others = λ name other is. let (r, among, called, held) = it.others name other is in (r, among_left (rules r) parts (word text ∷ []) among, called, held);
      }
    where
      before : (r : Rules) → IsAmong (rules r) (parts ++ word text ∷ []) → IsAmong (rules r) parts
      before r among = by (among_either (rules r) parts (word text ∷ []) among)
        where
          by : IsAmong (rules r) parts ⊎ IsAmong (rules r) (word text ∷ []) → IsAmong (rules r) parts
          by (inl is) = is
          by (inr (inl is)) = absurd (cc is)
          by (inr (inr is)) = absurd is

  -- One definition more waits with those of its name.
  module _ (new : Rules) (words : List (List ℕ)) (next : List ℕ → Option (List (List ℕ))) (are : words ≡ words_of (waiting new.name) ++ new.inside)
      (added : (other : List ℕ) → next other ≡ cond (bytes_eq new.name other) (Some words) (waiting other)) where
    one_or : (other : List ℕ) → ((new.name ≡ other) × (next other ≡ Some words)) ⊎ (next other ≡ waiting other)
    one_or other = by (bytes_eq new.name other) (bytes_eq-Decides new.name other).0 (added other)
      where
        by : (same : Bool) → (same ≡ true → new.name ≡ other) → next other ≡ cond same (Some words) (waiting other)
            → ((new.name ≡ other) × (next other ≡ Some words)) ⊎ (next other ≡ waiting other)
        by true same is = inl (same refl, is)
        by false same is = inr is

    named : next new.name ≡ Some words
    named = added new.name ∙ ap (λ b. cond b (Some words) (waiting new.name)) ((bytes_eq-Decides new.name new.name).1 refl)

    parts_now : List Part
    parts_now = parts ++ rules new ∷ []

    pub waits_rules : IsWaiting (parts ++ rules new ∷ []) next
    waits_rules =
        record {
          there = λ r among none. there r (among_either (rules r) parts (rules new ∷ []) among) none;
          all = λ r text among is. all r text (among_either (rules r) parts (rules new ∷ []) among) is;
          others = λ name text is. others name text is (one_or name);
        }
      where
        same : (r : Rules) → rules new ≡ rules r → new ≡ r
        same r e = cc e

        old_there : (r : Rules) → IsAmong (rules r) parts → next r.name ≡ None → ((new.name ≡ r.name) × (next r.name ≡ Some words)) ⊎ (next r.name ≡ waiting r.name) → ⊥
        old_there r among none (inl is) = absurd (cc (sym none ∙ is.1))
        old_there r among none (inr is) = it.there r among (sym is ∙ none)

        there : (r : Rules) → IsAmong (rules r) parts ⊎ IsAmong (rules r) (rules new ∷ []) → next r.name ≡ None → ⊥
        there r (inl among) none = old_there r among none (one_or r.name)
        there r (inr (inl is)) none = absurd (cc (sym none ∙ subst (λ x. next x.name ≡ Some words) (same r is) named))
        there r (inr (inr is)) none = absurd is

        old_all : (r : Rules) (text : List ℕ) → IsAmong (rules r) parts → IsAmong text r.inside → ((new.name ≡ r.name) × (next r.name ≡ Some words)) ⊎ (next r.name ≡ waiting r.name)
            → IsAmong text (words_of (next r.name))
        old_all r text among is (inr still) = subst (λ w. IsAmong text (words_of w)) (sym still) (it.all r text among is)
        old_all r text among is (inl here) =
            subst (λ w. IsAmong text (words_of w)) (sym here.1)
            (subst (IsAmong text) (sym are)
            (among_left text (words_of (waiting new.name)) new.inside (subst (λ n. IsAmong text (words_of (waiting n))) (sym here.0) (it.all r text among is))))

        all : (r : Rules) (text : List ℕ) → IsAmong (rules r) parts ⊎ IsAmong (rules r) (rules new ∷ []) → IsAmong text r.inside → IsAmong text (words_of (next r.name))
        all r text (inl among) is = old_all r text among is (one_or r.name)
        all r text (inr (inl e)) is =
            subst (λ x. IsAmong text x.inside → IsAmong text (words_of (next x.name))) (same r e)
            (λ held. subst (λ w. IsAmong text (words_of w)) (sym named) (subst (IsAmong text) (sym are) (among_right text (words_of (waiting new.name)) new.inside held))) is
        all r text (inr (inr none)) is = absurd none

        old_others : (name text : List ℕ) → IsAmong text (words_of (waiting name))
            → (r : Rules) × IsAmong (rules r) (parts ++ rules new ∷ []) × (r.name ≡ name) × IsAmong text r.inside
        old_others name text is = let (r, among, called, held) = it.others name text is in (r, among_left (rules r) parts (rules new ∷ []) among, called, held)

        others : (name text : List ℕ) → IsAmong text (words_of (next name)) → ((new.name ≡ name) × (next name ≡ Some words)) ⊎ (next name ≡ waiting name)
            → (r : Rules) × IsAmong (rules r) (parts ++ rules new ∷ []) × (r.name ≡ name) × IsAmong text r.inside
        others name text is (inr still) = old_others name text (subst (λ w. IsAmong text (words_of w)) still is)
        others name text is (inl here) =
            by (among_either text (words_of (waiting new.name)) new.inside (subst (IsAmong text) are (subst (λ w. IsAmong text (words_of w)) here.1 is)))
          where
            by : IsAmong text (words_of (waiting new.name)) ⊎ IsAmong text new.inside
                → (r : Rules) × IsAmong (rules r) (parts ++ rules new ∷ []) × (r.name ≡ name) × IsAmong text r.inside
            by (inl before) = old_others name text (subst (λ n. IsAmong text (words_of (waiting n))) here.0 before)
            by (inr held) = (new, among_right (rules new) parts (rules new ∷ []) (inl refl), here.0, held)
