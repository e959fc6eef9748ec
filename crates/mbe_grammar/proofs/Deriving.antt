-- A derivation step by step: what a level that was read gives, and the first place where trees are refused.
use Rattle.std.proofs.Common.{◌≡◌, inl, inr, ◌+◌, ◌≤◌, ◌<◌, ℕ, suc, zero, Bool, true, false, List, [], ◌∷◌, ◌++◌, map, Some, None, refl, sym, subst, ap, ◌∙◌, arith}
use Rattle.std.specs.Prelude.{◌⊎◌, if◌then◌else◌}
use Rattle.tt.specs.Forest.{Forest, end, leaf, node, size}
use Rattle.tt.specs.Siblings.{is_end}
use Rattle.tt.specs.Views.{trees_of}
use Rattle.mbe_grammar.specs.declared.entry.Entry.{Entry as Noted}
use Rattle.mbe_grammar.specs.declared.entry.Entry.TheVariants as noted
use Rattle.mbe_grammar.specs.declared.event.Event.{Event}
use Rattle.mbe_grammar.specs.declared.event.Event.TheVariants as event
use Rattle.mbe_grammar.specs.declared.event.Level.{Level}
use Rattle.mbe_grammar.specs.declared.rule.Rule.{Rule}
use Rattle.mbe_grammar.specs.Derivations.{Deriving, Spread, DerivesIn, Derives, Place, StopsAt, RefusesIn, Refuses, place}
use Rattle.mbe_grammar.specs.Deriving.{Gives, Stops, GivesBehind, StopsBehind, weight, IsRead}
use Rattle.mbe_grammar.specs.Left.{Left}
use Rattle.mbe_grammar.specs.Left as left
use Rattle.mbe_grammar.specs.Parses.{Parses}
use Rattle.mbe_grammar.specs.Places.{entry}
use Rattle.mbe_grammar.specs.Positions.{Entry, Position, enters, leaves, takes_unit, holds, first_position}
use Rattle.mbe_grammar.proofs.Weighing.{log_weight, light}

module _ (rules : List Rule) where
  -- The bound on a derivation's depth may be raised.
  abbrev Deepens : (P Q : Deriving) → Type 0
  Deepens P Q = (name : ℕ) (trees : Forest) (events : List Event) → P name trees events → Q name trees events

  spread : (P Q : Deriving) → Deepens P Q → (log : List Entry) (events : List Event) → Spread P log events → Spread Q log events
  spread P Q f [] events h = h
  spread P Q f (enters name ∷ log) events h = (h.0, spread P Q f log h.0 h.1, h.2)
  spread P Q f (leaves ∷ log) events h = (h.0, spread P Q f log h.0 h.1, h.2)
  spread P Q f (takes_unit count ∷ log) events h = (h.0, spread P Q f log h.0 h.1, h.2)
  spread P Q f (holds trees close name ∷ log) events h = (h.0, h.1, f name trees h.0 h.2, spread P Q f log h.1 h.3, h.4)

  deeper : (n m : ℕ) → n ≤ m → Deepens (DerivesIn rules n) (DerivesIn rules m)
  deeper zero m le name trees events h = absurd h
  deeper (suc n) zero le name trees events h = absurd (omega (arith, le))
  deeper (suc n) (suc m) le name trees events h =
      (h.0, h.1, h.2, spread (DerivesIn rules n) (DerivesIn rules m) (deeper n m (omega (arith, le))) h.0.log events h.3)

  -- the events of a log, by derivations of one depth
  spread_in : (log : List Entry) (events : List Event) → Spread (Derives rules) log events → (depth : ℕ) × Spread (DerivesIn rules depth) log events
  unfolding Derives
  spread_in [] events h = (0, h)
  spread_in (enters name ∷ log) events h = let it = spread_in log h.0 h.1 in (it.0, (h.0, it.1, h.2))
  spread_in (leaves ∷ log) events h = let it = spread_in log h.0 h.1 in (it.0, (h.0, it.1, h.2))
  spread_in (takes_unit count ∷ log) events h = let it = spread_in log h.0 h.1 in (it.0, (h.0, it.1, h.2))
  spread_in (holds trees close name ∷ log) events h =
      let it = spread_in log h.1 h.3 in
      let n = h.2.0 in (
        n + it.0,
        (
          h.0,
          h.1,
          deeper n (n + it.0) (omega arith) name trees h.0 h.2.1,
          spread (DerivesIn rules it.0) (DerivesIn rules (n + it.0)) (deeper it.0 (n + it.0) (omega arith)) log h.1 it.1,
          h.4,
        ),
      )

  -- Trees that the expression takes have the events of its log.
  pub derives : (name : ℕ) (trees : Forest) (to : Position) (events : List Event) → Parses true rules name (first_position trees) (Some to) → to.rest ≡ end
      → Spread (Derives rules) to.log events → Derives rules name trees events
  unfolding Derives
  derives name trees to events p e s = let it = spread_in to.log events s in (suc it.0, (to, p, e, it.1))

  -- The trees are refused at a place that the log has first.
  abbrev Refusing : (depth : ℕ) (stops : Type 0) (own : Place) → List Entry → Place → Type 0
  Refusing depth stops own log at = StopsAt (Derives rules) (RefusesIn rules depth) stops own log at

  refusing : (stops : Type 0) (own at : Place) (log : List Entry) → StopsAt (Derives rules) (Refuses rules) stops own log at → (depth : ℕ) × Refusing depth stops own log at
  unfolding Refuses
  refusing stops own at [] h = (0, h)
  refusing stops own at (enters name ∷ log) h = refusing stops own at log h
  refusing stops own at (leaves ∷ log) h = refusing stops own at log h
  refusing stops own at (takes_unit count ∷ log) h = refusing stops own at log h
  refusing stops own at (holds trees close name ∷ log) (inl h) = (h.0, inl h.1)
  refusing stops own at (holds trees close name ∷ log) (inr h) = let it = refusing stops own at log h.2 in (it.0, inr (h.0, h.1, it.1))

  pub refuses : (own : Place) (to : Position) (at : Place) → Parses true rules own.name (first_position own.trees) (Some to)
      → StopsAt (Derives rules) (Refuses rules) (to.rest ≡ end → ⊥) own to.log at → Refuses rules own at
  unfolding Refuses
  refuses own to at p s = let it = refusing (to.rest ≡ end → ⊥) own at to.log s in (suc it.0, inr (to, p, it.1))

  pub refuses_failed : (own : Place) → Parses true rules own.name (first_position own.trees) None → Refuses rules own own
  unfolding Refuses
  refuses_failed own p = (1, inl (p, refl))

  -- the entries of a log on top of what was left
  abbrev pub onto : List Noted → List Left → List Left
  onto log others = map left.noted log ++ others

  -- What they give are the events of the log, and what the others give.
  abbrev Parted : List Noted → List Left → (events : List Event) → Type 0
  Parted log others events = (one other : List Event) × Spread (Derives rules) (map entry log) one × Gives rules others other × (events ≡ one ++ other)

  one_more : (it : Event) (one other rest events : List Event) → rest ≡ one ++ other → events ≡ it ∷ rest → events ≡ (it ∷ one) ++ other
  one_more it one other rest events e f = f ∙ ap (λ (t : List Event). it ∷ t) e

  many_more : (inner one other : List Event) → inner ++ (event.Close ∷ (one ++ other)) ≡ (inner ++ (event.Close ∷ one)) ++ other
  many_more [] one other = refl
  many_more (it ∷ inner) one other = ap (λ (t : List Event). it ∷ t) (many_more inner one other)

  pub parted : (log : List Noted) (others : List Left) (events : List Event) → Gives rules (onto log others) events → Parted log others events
  parted [] others events h = ([], events, refl, h, refl)
  parted (noted.Enter name ∷ log) others events h =
      let it = parted log others h.0 h.1 in (event.Enter name ∷ it.0, it.1, (it.0, it.2, refl), it.3, one_more (event.Enter name) it.0 it.1 h.0 events it.4 h.2)
  parted (noted.Leave ∷ log) others events h =
      let it = parted log others h.0 h.1 in (event.Leave ∷ it.0, it.1, (it.0, it.2, refl), it.3, one_more event.Leave it.0 it.1 h.0 events it.4 h.2)
  parted (noted.Unit count ∷ log) others events h =
      let it = parted log others h.0 h.1 in (event.Token count ∷ it.0, it.1, (it.0, it.2, refl), it.3, one_more (event.Token count) it.0 it.1 h.0 events it.4 h.2)
  parted (noted.Holds trees close name ∷ log) others events h =
      let it = parted log others h.1 h.3 in (
        event.Open ∷ h.0 ++ event.Close ∷ it.0,
        it.1,
        (h.0, it.0, h.2, it.2, refl),
        it.3,
        h.4 ∙ ap (λ (t : List Event). event.Open ∷ h.0 ++ event.Close ∷ t) it.4 ∙ ap (λ (t : List Event). event.Open ∷ t) (many_more h.0 it.0 it.1),
      )

  -- They have a refused place first in the log, or in the others.
  abbrev pub Stopped : (stops : Type 0) (own : Place) → List Noted → List Left → Place → Type 0
  Stopped stops own log others at =
      StopsAt (Derives rules) (Refuses rules) stops own (map entry log) at ⊎ ((events : List Event) × Spread (Derives rules) (map entry log) events × Stops rules others at)

  pub stopped : (stops : Type 0) (own : Place) (log : List Noted) (others : List Left) (at : Place) → Stops rules (onto log others) at → Stopped stops own log others at
  stopped stops own [] others at h = inr ([], refl, h)
  stopped stops own (noted.Enter name ∷ log) others at h = elim (stopped stops own log others at h) [
    | inl k ↦ inl k
    | inr k ↦ inr (event.Enter name ∷ k.0, (k.0, k.1, refl), k.2)
  ]
  stopped stops own (noted.Leave ∷ log) others at h = elim (stopped stops own log others at h) [
    | inl k ↦ inl k
    | inr k ↦ inr (event.Leave ∷ k.0, (k.0, k.1, refl), k.2)
  ]
  stopped stops own (noted.Unit count ∷ log) others at h = elim (stopped stops own log others at h) [
    | inl k ↦ inl k
    | inr k ↦ inr (event.Token count ∷ k.0, (k.0, k.1, refl), k.2)
  ]
  stopped stops own (noted.Holds trees close name ∷ log) others at (inl h) = inl (inl h)
  stopped stops own (noted.Holds trees close name ∷ log) others at (inr h) = elim (stopped stops own log others at h.2) [
    | inl k ↦ inl (inr (h.0, h.1, k))
    | inr k ↦ inr (event.Open ∷ h.0 ++ event.Close ∷ k.0, (h.0, k.0, h.1, k.1, refl), k.2)
  ]

  -- If each subtree has events, and the expression stops before the end, then the place is its own.
  pub own_stop : (stops : Type 0) (own at : Place) (log : List Entry) (events : List Event) → Spread (Derives rules) log events → stops → at ≡ own → StopsAt (Derives rules) (Refuses rules) stops own log at
  own_stop stops own at [] events s k e = (k, e)
  own_stop stops own at (enters name ∷ log) events s k e = own_stop stops own at log s.0 s.1 k e
  own_stop stops own at (leaves ∷ log) events s k e = own_stop stops own at log s.0 s.1 k e
  own_stop stops own at (takes_unit count ∷ log) events s k e = own_stop stops own at log s.0 s.1 k e
  own_stop stops own at (holds trees close name ∷ log) events s k e = inr (s.0, s.2, own_stop stops own at log s.1 s.3 k e)

  -- the weight of the entries on top
  pub weight_onto : (log : List Noted) (others : List Left) → weight (onto log others) ≡ log_weight (map entry log) + weight others
  weight_onto [] others = omega arith
  weight_onto (noted.Enter name ∷ log) others = weight_onto log others
  weight_onto (noted.Leave ∷ log) others = weight_onto log others
  weight_onto (noted.Unit count ∷ log) others = weight_onto log others
  weight_onto (noted.Holds trees close name ∷ log) others = omega (arith, weight_onto log others)

  pub ends_only : (trees : Forest) → is_end trees ≡ true → trees ≡ end
  ends_only end e = refl
  ends_only (leaf it rest) e = absurd (cc e)
  ends_only (node delimiter children rest) e = absurd (cc e)

  pub goes_on_only : (trees : Forest) → is_end trees ≡ false → trees ≡ end → ⊥
  goes_on_only end e same = absurd (cc e)
  goes_on_only (leaf it rest) e same = absurd (cc same)
  goes_on_only (node delimiter children rest) e same = absurd (cc same)

  module _ (it : Level) (log : List Noted) (others : List Left) (to : Position) (p : Parses true rules it.name (first_position (trees_of it.trees)) (Some to)) (is : to.log ≡ map entry log) where
    lighter : weight (onto log others) < suc (size (trees_of it.trees) + weight others)
    lighter = omega (arith, weight_onto log others, light rules it.name (first_position (trees_of it.trees)) (Some to) p, ap log_weight is)

    -- The expression took all trees.
    pub read_whole : is_end to.rest ≡ true → IsRead rules (place it) others (Some (onto log others))
    read_whole e = (
      λ events g.
          let parts = parted log others events g in
          let own = derives it.name (trees_of it.trees) to parts.0 p (ends_only to.rest e) (subst (λ t. Spread (Derives rules) t parts.0) (sym is) parts.2) in
          (parts.0, parts.1, own, parts.3, parts.4),
      λ at s. by at (stopped (to.rest ≡ end → ⊥) (place it) log others at s),
      lighter,
    )
      where
        by : (at : Place) → Stopped (to.rest ≡ end → ⊥) (place it) log others at → StopsBehind rules (place it) others at
        by at (inl k) = inl (refuses (place it) to at p (subst (λ t. StopsAt (Derives rules) (Refuses rules) (to.rest ≡ end → ⊥) (place it) t at) (sym is) k))
        by at (inr k) = inr (k.0, derives it.name (trees_of it.trees) to k.0 p (ends_only to.rest e) (subst (λ t. Spread (Derives rules) t k.0) (sym is) k.1), k.2)

    -- It stopped before the end.
    pub read_part : is_end to.rest ≡ false → IsRead rules (place it) others (Some (onto log (left.stops it ∷ others)))
    read_part e = (
      λ events g. let parts = parted log (left.stops it ∷ others) events g in absurd parts.3,
      λ at s. by at (stopped (to.rest ≡ end → ⊥) (place it) log (left.stops it ∷ others) at s),
      omega (arith, weight_onto log (left.stops it ∷ others), light rules it.name (first_position (trees_of it.trees)) (Some to) p, ap log_weight is),
    )
      where
        by : (at : Place) → Stopped (to.rest ≡ end → ⊥) (place it) log (left.stops it ∷ others) at → StopsBehind rules (place it) others at
        by at (inl k) = inl (refuses (place it) to at p (subst (λ t. StopsAt (Derives rules) (Refuses rules) (to.rest ≡ end → ⊥) (place it) t at) (sym is) k))
        by at (inr k) =
            let own = own_stop (to.rest ≡ end → ⊥) (place it) at (map entry log) k.0 k.1 (goes_on_only to.rest e) k.2 in
            inl (refuses (place it) to at p (subst (λ t. StopsAt (Derives rules) (Refuses rules) (to.rest ≡ end → ⊥) (place it) t at) (sym is) own))

    -- So it is in both cases.
    pub read_level : (ends : Bool) → is_end to.rest ≡ ends → IsRead rules (place it) others (Some (onto log (left.stopped (if ends then None else Some it) others)))
    read_level true e = read_whole e
    read_level false e = read_part e

  none_more : (events : List Event) → events ++ [] ≡ events
  none_more [] = refl
  none_more (it ∷ events) = ap (λ (t : List Event). it ∷ t) (none_more events)

  -- What a level gives with nothing behind it are its events.
  pub whole : (it : Place) (events : List Event) → GivesBehind rules it [] events → Derives rules it.name it.trees events
  whole it events h =
      subst (Derives rules it.name it.trees) (sym (h.4 ∙ ap (λ (t : List Event). h.0 ++ t) h.3 ∙ none_more h.0)) h.2

  pub refused_whole : (it at : Place) → StopsBehind rules it [] at → Refuses rules it at
  refused_whole it at (inl h) = h
  refused_whole it at (inr h) = absurd h.2
