-- With a good table each expression has an answer, and the machine ends.
use Rattle.std.proofs.Common.{◌≡◌, inl, inr, ◌+◌, ◌≤◌, ◌<◌, ℕ, suc, zero, Bool, true, false, List, [], ◌∷◌, length, Some, None, refl, sym, subst, ap, ◌∙◌, arith}
use Rattle.std.specs.Prelude.{◌⊎◌, slice_get, Option, option_map}
use Rattle.tt.specs.Forest.{size}
use Rattle.mbe_grammar.specs.declared.known.Glance.{Glance}
use Rattle.mbe_grammar.specs.declared.rule.Rule.{Rule}
use Rattle.mbe_grammar.specs.declared.rule.Rule.TheVariants as rule
use Rattle.mbe_grammar.specs.Good.{rank_of, may_take_nothing, IsGood}
use Rattle.mbe_grammar.specs.Machine.{Frame, State, resumed, Ends}
use Rattle.mbe_grammar.specs.Machine as machine
use Rattle.mbe_grammar.specs.Parses.{Answering, Holds, ParsesIn}
use Rattle.mbe_grammar.specs.Positions.{Position, enters, takes, opened, closed}
use Rattle.mbe_grammar.proofs.Agreeing.{AgreesWith}
use Rattle.mbe_grammar.proofs.Marks.{GoodIn, good_from, named_split, then_split, or_split, many_split, not_split}
use Rattle.mbe_grammar.proofs.Notes.{noted_rest, closed_rest}
use Rattle.mbe_grammar.proofs.OneAnswer.{deeper}
use Rattle.mbe_grammar.proofs.Shrinking.{size_left, takes_shrinks}
use Rattle.mbe_grammar.proofs.Steps.{leads}

module _ (noting : Bool) (rules : List Rule) (good : IsGood rules) where
  good_at : (at : ℕ) → GoodIn good.marks at (slice_get rules at)
  good_at at =
      let same : 0 + at ≡ at = omega arith in
      subst (λ n. GoodIn good.marks n (slice_get rules at)) same (good_from good.marks 0 at rules good.are_right)

  -- what is taken leaves no more, and less if something must be taken
  abbrev pub Shrinks : (at : ℕ) (from to : Position) → Type 0
  Shrinks at from to = (size_left to ≤ size_left from) × (may_take_nothing good.marks at ≡ false → size_left to < size_left from)

  abbrev pub Sound : Answering → Type 0
  Sound P = (at : ℕ) (from to : Position) → P at from (Some to) → Shrinks at from to

  -- the place where the expression of a name ends
  found_to : (at : ℕ) (from to : Position) (found : Option Position) → Some to ≡ option_map (closed noting (length from.log)) found
      → (it : Position) × (found ≡ Some it) × (to ≡ closed noting (length from.log) it)
  found_to at from to None e = absurd (cc e)
  found_to at from to (Some it) e = (it, refl, cc e)

  sound_by : (P : Answering) → Sound P
      → (at : ℕ) (from to : Position) (it : Option Rule) → GoodIn good.marks at it → Holds noting P at it from (Some to) → Shrinks at from to
  sound_by P f at from to None g h = absurd (cc h)
  sound_by P f at from to (Some rule.Empty) g h =
      let same : to ≡ from = cc h in (omega (arith, ap size_left same), λ never. absurd (cc (never, g)))
  sound_by P f at from to (Some (rule.Unit wanted)) g h = let less = takes_shrinks noting wanted from to (sym h) in (omega (arith, less), λ never. less)
  sound_by P f at from to (Some (rule.Name other)) g h =
      let it = found_to at from to h.0 h.2 in
      let b : Shrinks other (opened noting at from) it.0 = f other (opened noting at from) it.0 (subst (λ a. P other (opened noting at from) a) it.1 h.1) in
      let before : size_left (opened noting at from) ≡ size_left from = ap size (noted_rest noting (enters at ∷ []) from) in
      let after : size_left to ≡ size_left it.0 = ap size_left it.2 ∙ ap size (closed_rest noting (length from.log) it.0) in
      (omega (arith, b.0, before, after), λ never. omega (arith, b.1 ((named_split good.marks at other g).1 never), before, after))
  sound_by P f at from to (Some (rule.Sequence first second)) g (inl h) = absurd (cc (h.1))
  sound_by P f at from to (Some (rule.Sequence first second)) g (inr h) =
      let a : Shrinks first from h.0 = f first from h.0 h.1 in
      let b : Shrinks second h.0 to = f second h.0 to h.2 in
      (omega (arith, a.0, b.0), λ never. by a b ((then_split good.marks at first second g).2 never))
    where
      by : Shrinks first from h.0 → Shrinks second h.0 to → (may_take_nothing good.marks first ≡ false) ⊎ (may_take_nothing good.marks second ≡ false) → size_left to < size_left from
      by a b (inl e) = omega (arith, a.1 e, b.0)
      by a b (inr e) = omega (arith, b.1 e, a.0)
  sound_by P f at from to (Some (rule.Choice first other)) g (inl h) =
      let b : Shrinks other from to = f other from to h.1 in
      (b.0, λ never. b.1 ((or_split good.marks at first other g).2 never).1)
  sound_by P f at from to (Some (rule.Choice first other)) g (inr h) =
      let same : h.0 ≡ to = cc (h.2) in
      let a : Shrinks first from to = subst (λ n. Shrinks first from n) same (f first from h.0 h.1) in
      (a.0, λ never. a.1 ((or_split good.marks at first other g).2 never).0)
  sound_by P f at from to (Some (rule.ZeroOrMore part)) g (inl h) =
      let same : to ≡ from = cc (h.1) in
      let yes = (many_split good.marks at part g).2 in (omega (arith, ap size_left same), λ never. absurd (cc (never, yes)))
  sound_by P f at from to (Some (rule.ZeroOrMore part)) g (inr h) =
      let a : Shrinks part from h.0 = f part from h.0 h.1 in
      let b : Shrinks at h.0 to = f at h.0 to h.2 in
      let yes = (many_split good.marks at part g).2 in (omega (arith, a.0, b.0), λ never. absurd (cc (never, yes)))
  sound_by P f at from to (Some (rule.Not part)) g (inl h) =
      let same : to ≡ from = cc (h.1) in
      let yes = (not_split good.marks at part g).1 in (omega (arith, ap size_left same), λ never. absurd (cc (never, yes)))
  sound_by P f at from to (Some (rule.Not part)) g (inr h) = absurd (cc (h.2))

  -- What an expression takes leaves no more.
  pub sound : (depth : ℕ) → Sound (ParsesIn noting rules depth)
  sound zero at from to h = absurd h
  sound (suc depth) at from to h = sound_by (ParsesIn noting rules depth) (sound depth) at from to (slice_get rules at) (good_at at) h

  abbrev pub Has : (at : ℕ) (from : Position) → Type 0
  Has at from = (depth : ℕ) × (answer : Option Position) × ParsesIn noting rules depth at from answer

  abbrev pub HasBy : (at : ℕ) → Option Rule → (from : Position) → Type 0
  HasBy at it from = (depth : ℕ) × (answer : Option Position) × Holds noting (ParsesIn noting rules depth) at it from answer

  left_of : (n m at : ℕ) (from : Position) (answer : Option Position) → ParsesIn noting rules n at from answer → ParsesIn noting rules (n + m) at from answer
  left_of n m at from answer h = deeper noting rules n (n + m) (omega arith) at from answer h

  right_of : (n m at : ℕ) (from : Position) (answer : Option Position) → ParsesIn noting rules m at from answer → ParsesIn noting rules (n + m) at from answer
  right_of n m at from answer h = deeper noting rules m (n + m) (omega arith) at from answer h

  module _ (n k : ℕ) (smaller : (at : ℕ) (from : Position) → size_left from < n → Has at from)
      (lower : (at : ℕ) (from : Position) → size_left from < suc n → rank_of good.marks at < k → Has at from)
      (at : ℕ) (from : Position) (few : size_left from < suc n) (low : rank_of good.marks at < suc k) where
    -- what follows a part
    behind : (first second : ℕ) (middle : Position) → Shrinks first from middle → (may_take_nothing good.marks first ≡ true → rank_of good.marks second < rank_of good.marks at)
        → Has second middle
    behind first second middle s ranks = by (may_take_nothing good.marks first) refl
      where
        by : (b : Bool) → may_take_nothing good.marks first ≡ b → Has second middle
        by true e = lower second middle (omega (arith, s.0, few)) (omega (arith, ranks e, low))
        by false e = smaller second middle (omega (arith, s.1 e, few))

    then_by : (first second : ℕ) → (may_take_nothing good.marks first ≡ true → rank_of good.marks second < rank_of good.marks at)
        → Has first from → HasBy at (Some (rule.Sequence first second)) from
    then_by first second ranks (d, None, p) = (d, None, inl (p, refl))
    then_by first second ranks (d, Some middle, p) =
        let next = behind first second middle (sound d first from middle p) ranks in
        (d + next.0, next.1, inr (middle, left_of d next.0 first from (Some middle) p, right_of d next.0 second middle next.1 next.2))

    or_by : (first other : ℕ) → Has other from → Has first from → HasBy at (Some (rule.Choice first other)) from
    or_by first other (e, answer, q) (d, None, p) = (d + e, answer, inl (left_of d e first from None p, right_of d e other from answer q))
    or_by first other next (d, Some to, p) = (d, Some to, inr (to, p, refl))

    many_by : (part : ℕ) → may_take_nothing good.marks part ≡ false → Has part from → HasBy at (Some (rule.ZeroOrMore part)) from
    many_by part must (d, None, p) = (d, Some from, inl (p, refl))
    many_by part must (d, Some middle, p) =
        let s : Shrinks part from middle = sound d part from middle p in
        let next = smaller at middle (omega (arith, s.1 must, few)) in
        (d + next.0, next.1, inr (middle, left_of d next.0 part from (Some middle) p, right_of d next.0 at middle next.1 next.2))

    not_by : (part : ℕ) → Has part from → HasBy at (Some (rule.Not part)) from
    not_by part (d, None, p) = (d, Some from, inl (p, refl))
    not_by part (d, Some to, p) = (d, None, inr (to, p, refl))

    pub has_by : (it : Option Rule) → GoodIn good.marks at it → HasBy at it from
    has_by None g = (0, None, refl)
    has_by (Some rule.Empty) g = (0, Some from, refl)
    has_by (Some (rule.Unit wanted)) g = (0, takes noting wanted from, refl)
    has_by (Some (rule.Name other)) g =
        let it = named_split good.marks at other g in
        let same : size_left (opened noting at from) ≡ size_left from = ap size (noted_rest noting (enters at ∷ []) from) in
        let found = lower other (opened noting at from) (omega (arith, few, same)) (omega (arith, it.0, low)) in
        (found.0, option_map (closed noting (length from.log)) found.1, (found.1, found.2, refl))
    has_by (Some (rule.Sequence first second)) g =
        let it = then_split good.marks at first second g in
        then_by first second it.1 (lower first from few (omega (arith, it.0, low)))
    has_by (Some (rule.Choice first other)) g =
        let it = or_split good.marks at first other g in
        or_by first other (lower other from few (omega (arith, it.1, low))) (lower first from few (omega (arith, it.0, low)))
    has_by (Some (rule.ZeroOrMore part)) g =
        let it = many_split good.marks at part g in
        many_by part it.1 (lower part from few (omega (arith, it.0, low)))
    has_by (Some (rule.Not part)) g =
        let it = not_split good.marks at part g in
        not_by part (lower part from few (omega (arith, it.0, low)))

  has_ranked : (n : ℕ) → ((at : ℕ) (from : Position) → size_left from < n → Has at from) → (k at : ℕ) (from : Position) → size_left from < suc n → rank_of good.marks at < k → Has at from
  has_ranked n smaller zero at from few low = absurd (omega (arith, low))
  has_ranked n smaller (suc k) at from few low =
      let it = has_by n k smaller (has_ranked n smaller k) at from few low (slice_get rules at) (good_at at) in (suc it.0, it.1, it.2)

  has_sized : (n at : ℕ) (from : Position) → size_left from < n → Has at from
  has_sized zero at from few = absurd (omega (arith, few))
  has_sized (suc n) at from few = has_ranked n (has_sized n) (suc (rank_of good.marks at)) at from few (omega arith)

  -- Each expression has an answer from each place on.
  pub has : (at : ℕ) (from : Position) → Has at from
  has at from = has_sized (suc (size_left from)) at from (omega arith)

  module _ (looks : ℕ → Position → Glance) (agree : (depth : ℕ) → AgreesWith noting rules looks (ParsesIn noting rules depth)) where
    abbrev pub Stops : State → List Frame → Type 0
    Stops at frames = (count : ℕ) × (answer : Option Position) × Ends noting looks rules count at frames answer

    stops_at : (frames : List Frame) → ((found : Option Position) → Stops (machine.answered found) frames) → (at : State) → Stops at frames
    stops_at frames f (machine.answered found) = f found
    stops_at frames f (machine.reading at from) =
        let it = has at from in
        let more = f it.1 in
        let all = leads noting looks rules agree it.0 at from it.1 it.2 frames more.0 more.1 more.2 in
        (all.0, more.1, all.1)

    stops_back : (frames : List Frame) (found : Option Position) → Stops (machine.answered found) frames
    stops_back [] found = (0, found, refl)
    stops_back (frame ∷ frames) found = let it = stops_at frames (stops_back frames) (resumed looks frame found) in (suc it.0, it.1, it.2)

    -- The machine stops in any state.
    pub stops : (at : State) (frames : List Frame) → Stops at frames
    stops at frames = stops_at frames (stops_back frames) at
