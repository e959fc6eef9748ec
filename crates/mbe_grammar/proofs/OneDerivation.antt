-- Trees have one derivation, or one first place where they are refused, and never both.
use Rattle.std.proofs.Common.{◌≡◌, inl, inr, ◌≤◌, ◌<◌, ℕ, suc, zero, Bool, true, false, List, [], ◌∷◌, ◌++◌, None, Some, refl, sym, subst, ap, ap₂, ◌∙◌, arith}
use Rattle.std.specs.Prelude.{◌⊎◌, Option}
use Rattle.tt.specs.Forest.{Forest, end, size}
use Rattle.tt.specs.Siblings.{is_end}
use Rattle.tt.specs.Types.Span.{Span}
use Rattle.mbe_grammar.specs.declared.event.Event.{Event}
use Rattle.mbe_grammar.specs.declared.event.Event.TheVariants as event
use Rattle.mbe_grammar.specs.declared.rule.Rule.{Rule}
use Rattle.mbe_grammar.specs.Derivations.{Deriving, Spread, DerivesIn, Derives, Place, whole, inside, StopsAt, RefusesIn, Refuses, TakesDeep}
use Rattle.mbe_grammar.specs.Good.{IsGood}
use Rattle.mbe_grammar.specs.Parses.{Parses}
use Rattle.mbe_grammar.specs.Positions.{Entry, Position, enters, leaves, takes_unit, holds, first_position}
use Rattle.mbe_grammar.proofs.Deriving.{derives, refuses, refuses_failed, own_stop, ends_only, goes_on_only}
use Rattle.mbe_grammar.proofs.OneAnswer.{one_answer_in}
use Rattle.mbe_grammar.proofs.Total.{has}
use Rattle.mbe_grammar.proofs.Weighing.{log_weight, light}

module _ (rules : List Rule) where
  one_answer : (at : ℕ) (from : Position) (answer other : Option Position) → Parses true rules at from answer → Parses true rules at from other → answer ≡ other
  unfolding Parses
  one_answer at from answer other h k = one_answer_in true rules h.0 k.0 at from answer other h.1 k.1

  one_place : (at : ℕ) (from to other : Position) → Parses true rules at from (Some to) → Parses true rules at from (Some other) → to ≡ other
  one_place at from to other h k = cc (one_answer at from (Some to) (Some other) h k)

  abbrev Once : (P Q : Deriving) → Type 0
  Once P Q = (name : ℕ) (trees : Forest) (events others : List Event) → P name trees events → Q name trees others → events ≡ others

  one_spread : (P Q : Deriving) → Once P Q → (log : List Entry) (events others : List Event) → Spread P log events → Spread Q log others → events ≡ others
  one_spread P Q f [] events others h k = h ∙ sym k
  one_spread P Q f (enters name ∷ log) events others h k = h.2 ∙ ap (λ (t : List Event). event.Enter name ∷ t) (one_spread P Q f log h.0 k.0 h.1 k.1) ∙ sym k.2
  one_spread P Q f (leaves ∷ log) events others h k = h.2 ∙ ap (λ (t : List Event). event.Leave ∷ t) (one_spread P Q f log h.0 k.0 h.1 k.1) ∙ sym k.2
  one_spread P Q f (takes_unit count ∷ log) events others h k = h.2 ∙ ap (λ (t : List Event). event.Token count ∷ t) (one_spread P Q f log h.0 k.0 h.1 k.1) ∙ sym k.2
  one_spread P Q f (holds trees close name ∷ log) events others h k =
      h.4 ∙ ap₂ (λ (inner rest : List Event). event.Open ∷ inner ++ event.Close ∷ rest) (f name trees h.0 k.0 h.2 k.2) (one_spread P Q f log h.1 k.1 h.3 k.3) ∙ sym k.4

  once_in : (n m : ℕ) → Once (DerivesIn rules n) (DerivesIn rules m)
  once_in zero m name trees events others h k = absurd h
  once_in (suc n) zero name trees events others h k = absurd k
  once_in (suc n) (suc m) name trees events others h k =
      let same : k.0.log ≡ h.0.log = ap (λ (p : Position). p.log) (one_place name (first_position trees) k.0 h.0 k.1 h.1) in
      one_spread (DerivesIn rules n) (DerivesIn rules m) (once_in n m) h.0.log events others h.3 (subst (λ log. Spread (DerivesIn rules m) log others) same k.3)

  -- The trees have one derivation.
  pub once : Once (Derives rules) (Derives rules)
  unfolding Derives
  once name trees events others h k = once_in h.0 k.0 name trees events others h.1 k.1

  abbrev Apart : (P : Deriving) → (Q : (own at : Place) → Type 0) → Type 0
  Apart P Q = (own : Place) (events : List Event) (at : Place) → P own.name own.trees events → Q own at → ⊥

  no_stop : (P : Deriving) (Q : (own at : Place) → Type 0) → Apart P Q → (stops : Type 0) → (stops → ⊥) → (own at : Place) (log : List Entry) (events : List Event)
      → Spread P log events → StopsAt (Derives rules) Q stops own log at → ⊥
  no_stop P Q f stops never own at [] events h s = never s.0
  no_stop P Q f stops never own at (enters name ∷ log) events h s = no_stop P Q f stops never own at log h.0 h.1 s
  no_stop P Q f stops never own at (leaves ∷ log) events h s = no_stop P Q f stops never own at log h.0 h.1 s
  no_stop P Q f stops never own at (takes_unit count ∷ log) events h s = no_stop P Q f stops never own at log h.0 h.1 s
  no_stop P Q f stops never own at (holds trees close name ∷ log) events h (inl s) = f (inside trees close name) h.0 at h.2 s
  no_stop P Q f stops never own at (holds trees close name ∷ log) events h (inr s) = no_stop P Q f stops never own at log h.1 h.3 s.2

  apart_in : (n m : ℕ) → Apart (DerivesIn rules n) (RefusesIn rules m)
  apart_in zero m own events at h r = absurd h
  apart_in (suc n) zero own events at h r = absurd r
  apart_in (suc n) (suc m) own events at h (inl r) = absurd (cc (one_answer own.name (first_position own.trees) (Some h.0) None h.1 r.0))
  apart_in (suc n) (suc m) own events at h (inr r) =
      let same : r.0 ≡ h.0 = one_place own.name (first_position own.trees) r.0 h.0 r.1 h.1 in
      let log : h.0.log ≡ r.0.log = sym (ap (λ (p : Position). p.log) same) in
      let rest : r.0.rest ≡ end = ap (λ (p : Position). p.rest) same ∙ h.2 in
      no_stop (DerivesIn rules n) (RefusesIn rules m) (apart_in n m) (r.0.rest ≡ end → ⊥) (λ never. never rest) own at r.0.log events (subst (λ t. Spread (DerivesIn rules n) t events) log h.3) r.2

  -- Trees with a derivation are not refused.
  pub apart : Apart (Derives rules) (Refuses rules)
  unfolding Derives Refuses
  apart own events at h r = apart_in h.0 r.0 own events at h.1 r.1

  same_place : (name : ℕ) (trees : Forest) (to other : Position) → Parses true rules name (first_position trees) (Some to) → Parses true rules name (first_position trees) (Some other)
      → other.log ≡ to.log
  same_place name trees to other h k = ap (λ (p : Position). p.log) (one_place name (first_position trees) other to k h)

  -- Trees that an expression takes with their contents are not refused.
  never_deep : (name : ℕ) (trees : Forest) (n : ℕ) → TakesDeep rules name trees (Some n) → TakesDeep rules name trees None → ⊥
  never_deep name trees n h (inl k) = absurd (cc (one_answer name (first_position trees) (Some h.0) None h.1 k))
  never_deep name trees n h (inr k) =
      let log = same_place name trees k.0 h.0 k.1 h.1 in
      no_stop (Derives rules) (Refuses rules) apart ⊥ (λ never. never) (whole name trees) k.2 k.0.log h.3 (subst (λ t. Spread (Derives rules) t h.3) log h.4) k.3

  -- An expression takes one number of trees with their contents.
  pub one_deep : (name : ℕ) (trees : Forest) (count other : Option ℕ) → TakesDeep rules name trees count → TakesDeep rules name trees other → count ≡ other
  one_deep name trees None None h k = refl
  one_deep name trees None (Some m) h k = absurd (never_deep name trees m k h)
  one_deep name trees (Some n) None h k = absurd (never_deep name trees n h k)
  one_deep name trees (Some n) (Some m) h k =
      let same = ap (λ (p : Position). p.passed) (one_place name (first_position trees) h.0 k.0 h.1 k.1) in
      ap Some (h.2 ∙ same ∙ sym k.2)

  refused_in : (n : ℕ) (own : Place) (events : List Event) (at : Place) → Derives rules own.name own.trees events → RefusesIn rules n own at → ⊥
  unfolding Refuses
  refused_in n own events at d r = apart own events at d (n, r)

  one_stop : (n m : ℕ) → ((own at other : Place) → RefusesIn rules n own at → RefusesIn rules m own other → at ≡ other)
      → (stops : Type 0) (own at other : Place) (log : List Entry) → StopsAt (Derives rules) (RefusesIn rules n) stops own log at
      → StopsAt (Derives rules) (RefusesIn rules m) stops own log other → at ≡ other
  one_stop n m f stops own at other [] h k = h.1 ∙ sym k.1
  one_stop n m f stops own at other (enters name ∷ log) h k = one_stop n m f stops own at other log h k
  one_stop n m f stops own at other (leaves ∷ log) h k = one_stop n m f stops own at other log h k
  one_stop n m f stops own at other (takes_unit count ∷ log) h k = one_stop n m f stops own at other log h k
  one_stop n m f stops own at other (holds trees close name ∷ log) (inl h) (inl k) = f (inside trees close name) at other h k
  one_stop n m f stops own at other (holds trees close name ∷ log) (inl h) (inr k) = absurd (refused_in n (inside trees close name) k.0 at k.1 h)
  one_stop n m f stops own at other (holds trees close name ∷ log) (inr h) (inl k) = absurd (refused_in m (inside trees close name) h.0 other h.1 k)
  one_stop n m f stops own at other (holds trees close name ∷ log) (inr h) (inr k) = one_stop n m f stops own at other log h.2 k.2

  one_refusal_in : (n m : ℕ) (own at other : Place) → RefusesIn rules n own at → RefusesIn rules m own other → at ≡ other
  one_refusal_in zero m own at other h k = absurd h
  one_refusal_in (suc n) zero own at other h k = absurd k
  one_refusal_in (suc n) (suc m) own at other (inl h) (inl k) = h.1 ∙ sym k.1
  one_refusal_in (suc n) (suc m) own at other (inl h) (inr k) = absurd (cc (one_answer own.name (first_position own.trees) None (Some k.0) h.0 k.1))
  one_refusal_in (suc n) (suc m) own at other (inr h) (inl k) = absurd (cc (one_answer own.name (first_position own.trees) (Some h.0) None h.1 k.0))
  one_refusal_in (suc n) (suc m) own at other (inr h) (inr k) =
      let same : k.0 ≡ h.0 = one_place own.name (first_position own.trees) k.0 h.0 k.1 h.1 in
      one_stop n m (one_refusal_in n m) (h.0.rest ≡ end → ⊥) own at other h.0.log h.2
      (subst (λ (p : Position). StopsAt (Derives rules) (RefusesIn rules m) (p.rest ≡ end → ⊥) own p.log other) same k.2)

  -- They have one first place where they are refused.
  pub one_refusal : (own at other : Place) → Refuses rules own at → Refuses rules own other → at ≡ other
  unfolding Refuses
  one_refusal own at other h k = one_refusal_in h.0 k.0 own at other h.1 k.1

  -- the trees have a derivation, or are refused somewhere
  abbrev pub Judged : (own : Place) → Type 0
  Judged own = ((events : List Event) × Derives rules own.name own.trees events) ⊎ ((at : Place) × Refuses rules own at)

  -- the same for the trees of each subtree of a log
  abbrev JudgedLog : (stops : Type 0) (own : Place) → List Entry → Type 0
  JudgedLog stops own log = ((events : List Event) × Spread (Derives rules) log events) ⊎ ((at : Place) × StopsAt (Derives rules) (Refuses rules) stops own log at)

  module _ (stops : Type 0) (own : Place) where
    judged_here : (trees : Forest) (close : Span) (name : ℕ) (log : List Entry) → Judged (inside trees close name) → JudgedLog stops own log
        → JudgedLog stops own (holds trees close name ∷ log)
    judged_here trees close name log (inl h) (inl k) = inl (event.Open ∷ h.0 ++ event.Close ∷ k.0, (h.0, k.0, h.1, k.1, refl))
    judged_here trees close name log (inl h) (inr k) = inr (k.0, inr (h.0, h.1, k.1))
    judged_here trees close name log (inr h) k = inr (h.0, inl h.1)

    judged_log : (fuel : ℕ) → ((own : Place) → size own.trees < fuel → Judged own) → (log : List Entry) → log_weight log ≤ fuel → JudgedLog stops own log
    judged_log fuel f [] few = inl ([], refl)
    judged_log fuel f (enters name ∷ log) few = elim (judged_log fuel f log few) [
      | inl k ↦ inl (event.Enter name ∷ k.0, (k.0, k.1, refl))
      | inr k ↦ inr k
    ]
    judged_log fuel f (leaves ∷ log) few = elim (judged_log fuel f log few) [
      | inl k ↦ inl (event.Leave ∷ k.0, (k.0, k.1, refl))
      | inr k ↦ inr k
    ]
    judged_log fuel f (takes_unit count ∷ log) few = elim (judged_log fuel f log few) [
      | inl k ↦ inl (event.Token count ∷ k.0, (k.0, k.1, refl))
      | inr k ↦ inr k
    ]
    judged_log fuel f (holds trees close name ∷ log) few =
        judged_here trees close name log (f (inside trees close name) (omega (arith, few))) (judged_log fuel f log (omega (arith, few)))

  judged_place : (own : Place) (to : Position) → Parses true rules own.name (first_position own.trees) (Some to) → (b : Bool) → is_end to.rest ≡ b
      → JudgedLog (to.rest ≡ end → ⊥) own to.log → Judged own
  judged_place own to p true e (inl k) = inl (k.0, derives rules own.name own.trees to k.0 p (ends_only rules to.rest e) k.1)
  judged_place own to p false e (inl k) =
      inr (own, refuses rules own to own p (own_stop rules (to.rest ≡ end → ⊥) own own to.log k.0 k.1 (goes_on_only rules to.rest e) refl))
  judged_place own to p b e (inr k) = inr (k.0, refuses rules own to k.0 p k.1)

  judged_answer : (fuel : ℕ) (own : Place) → size own.trees < suc fuel → ((own : Place) → size own.trees < fuel → Judged own)
      → (answer : Option Position) → Parses true rules own.name (first_position own.trees) answer → Judged own
  judged_answer fuel own few f None p = inr (own, refuses_failed rules own p)
  judged_answer fuel own few f (Some to) p =
      judged_place own to p (is_end to.rest) refl
      (judged_log (to.rest ≡ end → ⊥) own fuel f to.log (omega (arith, light rules own.name (first_position own.trees) (Some to) p, few)))

  module _ (good : IsGood rules) where
    answer_of : (name : ℕ) (trees : Forest) → (answer : Option Position) × Parses true rules name (first_position trees) answer
    unfolding Parses
    answer_of name trees = let it = has true rules good name (first_position trees) in (it.1, (it.0, it.2))

    judged_in : (fuel : ℕ) (own : Place) → size own.trees < fuel → Judged own
    judged_in zero own few = absurd (omega (arith, few))
    judged_in (suc fuel) own few = let it = answer_of own.name own.trees in judged_answer fuel own few (judged_in fuel) it.0 it.1

    -- Trees have a derivation, or are refused somewhere.
    pub judged : (own : Place) → Judged own
    judged own = judged_in (suc (size own.trees)) own (omega arith)

    deep_by : (name : ℕ) (trees : Forest) (to : Position) → Parses true rules name (first_position trees) (Some to) → JudgedLog ⊥ (whole name trees) to.log
        → (count : Option ℕ) × TakesDeep rules name trees count
    deep_by name trees to p (inl k) = (Some to.passed, (to, p, refl, k.0, k.1))
    deep_by name trees to p (inr k) = (None, inr (to, p, k.0, k.1))

    deep_answer : (name : ℕ) (trees : Forest) (answer : Option Position) → Parses true rules name (first_position trees) answer → (count : Option ℕ) × TakesDeep rules name trees count
    deep_answer name trees None p = (None, inl p)
    deep_answer name trees (Some to) p =
        deep_by name trees to p (judged_log ⊥ (whole name trees) (log_weight to.log) (λ it less. judged it) to.log (omega arith))

    -- An expression takes some number of trees with their contents, or none.
    pub has_deep : (name : ℕ) (trees : Forest) → (count : Option ℕ) × TakesDeep rules name trees count
    has_deep name trees = let it = answer_of name trees in deep_answer name trees it.0 it.1
