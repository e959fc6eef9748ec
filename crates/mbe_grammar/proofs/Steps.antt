-- The machine goes through each derivation, and stops once.
use Rattle.std.proofs.Common.{◌≡◌, inl, inr, ℕ, suc, zero, Bool, true, false, List, [], ◌∷◌, length, Some, None, refl, sym, subst, ap, ◌∙◌}
use Rattle.std.specs.Prelude.{slice_get, Option, option_map}
use Rattle.mbe_grammar.specs.declared.known.Glance.{Glance}
use Rattle.mbe_grammar.specs.declared.known.Glance.TheVariants as glance
use Rattle.mbe_grammar.specs.declared.rule.Rule.{Rule}
use Rattle.mbe_grammar.specs.declared.rule.Rule.TheVariants as rule
use Rattle.mbe_grammar.specs.Machine.{Frame, State, Begun, awaited, within, entered_by, entered, begun_name, begun_behind, begun_first, begun_sequence, begun_try, begun_choice, begun_by, begun, resumed, Ends}
use Rattle.mbe_grammar.specs.Machine as machine
use Rattle.mbe_grammar.specs.Parses.{Answering, Holds, ParsesIn}
use Rattle.mbe_grammar.specs.Positions.{Position, takes, opened, closed}
use Rattle.mbe_grammar.proofs.Agreeing.{Agrees, AgreesWith, UnitsTaken, units_taken}

module _ (noting : Bool) (looks : ℕ → Position → Glance) (rules : List Rule) where
  -- the machine ends from this beginning, while these frames wait
  abbrev Goes : Begun → List Frame → (final : Option Position) → Type 0
  Goes begun frames final = (all : ℕ) × Ends noting looks rules all begun.state (awaited begun.waiting frames) final

  -- the machine ends from there on after that many steps
  abbrev EndsFrom : State → List Frame → (steps : ℕ) → (final : Option Position) → Type 0
  EndsFrom state frames steps final = Ends noting looks rules steps state frames final

  -- From an expression that has an answer, the machine ends as it does from the answer.
  abbrev pub Leads : (P : Answering) → Type 0
  Leads P = (at : ℕ) (from : Position) (answer : Option Position) → P at from answer → (frames : List Frame) (steps : ℕ) (final : Option Position)
      → EndsFrom (machine.answered answer) frames steps final → (all : ℕ) × Ends noting looks rules all (machine.reading at from) frames final

  module _ (P : Answering) (f : Leads P) (agree : AgreesWith noting rules looks P) (taken : UnitsTaken noting rules P) where
    answers : (answer found : Option Position) → answer ≡ found → (frames : List Frame) (steps : ℕ) (final : Option Position) → EndsFrom (machine.answered answer) frames steps final
        → EndsFrom (machine.answered found) frames steps final
    answers answer found e frames steps final ends = subst (λ a. EndsFrom (machine.answered a) frames steps final) e ends

    -- an expression that is entered
    enters : (at : ℕ) (from : Position) (answer : Option Position) (look : Glance) → Agrees look from answer → P at from answer → (frames : List Frame) (steps : ℕ) (final : Option Position)
        → EndsFrom (machine.answered answer) frames steps final → (all : ℕ) × EndsFrom (entered_by look at from) frames all final
    enters at from answer glance.Fails a h frames steps final e = (steps, answers answer None a frames steps final e)
    enters at from answer glance.Idles a h frames steps final e = (steps, answers answer (Some from) a frames steps final e)
    enters at from answer glance.Open a h frames steps final e = f at from answer h frames steps final e

    -- a sequence whose first part fails
    fails_first : (first second : ℕ) (from : Position) (look : Glance) → Agrees look from None → P first from None → (frames : List Frame) (steps : ℕ) (final : Option Position)
        → EndsFrom (machine.answered None) frames steps final → Goes (begun_first first second from look) frames final
    fails_first first second from glance.Fails a h frames steps final e = f first from None h (machine.in_sequence second ∷ frames) (suc steps) final e
    fails_first first second from glance.Idles a h frames steps final e = absurd (cc a)
    fails_first first second from glance.Open a h frames steps final e = f first from None h (machine.in_sequence second ∷ frames) (suc steps) final e

    fails_sequence : (first second : ℕ) (from : Position) (it : Option Rule) → slice_get rules first ≡ it → P first from None → (frames : List Frame) (steps : ℕ) (final : Option Position)
        → EndsFrom (machine.answered None) frames steps final → Goes (begun_sequence noting looks first second from it) frames final
    fails_sequence first second from (Some (rule.Unit wanted)) is h frames steps final e =
        subst (λ a. Goes (begun_behind looks second a) frames final) (taken first from None wanted is h) (steps, e)
    fails_sequence first second from None is h frames steps final e = fails_first first second from (looks first from) (agree first from None h) h frames steps final e
    fails_sequence first second from (Some rule.Empty) is h frames steps final e = fails_first first second from (looks first from) (agree first from None h) h frames steps final e
    fails_sequence first second from (Some (rule.Name x)) is h frames steps final e = fails_first first second from (looks first from) (agree first from None h) h frames steps final e
    fails_sequence first second from (Some (rule.Sequence x y)) is h frames steps final e = fails_first first second from (looks first from) (agree first from None h) h frames steps final e
    fails_sequence first second from (Some (rule.Choice x y)) is h frames steps final e = fails_first first second from (looks first from) (agree first from None h) h frames steps final e
    fails_sequence first second from (Some (rule.ZeroOrMore x)) is h frames steps final e = fails_first first second from (looks first from) (agree first from None h) h frames steps final e
    fails_sequence first second from (Some (rule.Not x)) is h frames steps final e = fails_first first second from (looks first from) (agree first from None h) h frames steps final e

    -- a sequence whose first part takes trees up to a place
    takes_first : (first second : ℕ) (from middle : Position) (answer : Option Position) (look : Glance) → Agrees look from (Some middle) → P first from (Some middle) → P second middle answer
        → (frames : List Frame) (steps : ℕ) (final : Option Position) → EndsFrom (machine.answered answer) frames steps final → Goes (begun_first first second from look) frames final
    takes_first first second from middle answer glance.Fails a h k frames steps final e = absurd (cc a)
    takes_first first second from middle answer glance.Idles a h k frames steps final e =
        let same : middle ≡ from = cc a in
        f second from answer (subst (λ m. P second m answer) same k) frames steps final e
    takes_first first second from middle answer glance.Open a h k frames steps final e =
        let behind = enters second middle answer (looks second middle) (agree second middle answer k) k frames steps final e in
        f first from (Some middle) h (machine.in_sequence second ∷ frames) (suc behind.0) final behind.1

    takes_sequence : (first second : ℕ) (from middle : Position) (answer : Option Position) (it : Option Rule) → slice_get rules first ≡ it → P first from (Some middle) → P second middle answer
        → (frames : List Frame) (steps : ℕ) (final : Option Position) → EndsFrom (machine.answered answer) frames steps final → Goes (begun_sequence noting looks first second from it) frames final
    takes_sequence first second from middle answer (Some (rule.Unit wanted)) is h k frames steps final e =
        subst (λ a. Goes (begun_behind looks second a) frames final) (taken first from (Some middle) wanted is h)
        (enters second middle answer (looks second middle) (agree second middle answer k) k frames steps final e)
    takes_sequence first second from middle answer None is h k frames steps final e = takes_first first second from middle answer (looks first from) (agree first from (Some middle) h) h k frames steps final e
    takes_sequence first second from middle answer (Some rule.Empty) is h k frames steps final e = takes_first first second from middle answer (looks first from) (agree first from (Some middle) h) h k frames steps final e
    takes_sequence first second from middle answer (Some (rule.Name x)) is h k frames steps final e = takes_first first second from middle answer (looks first from) (agree first from (Some middle) h) h k frames steps final e
    takes_sequence first second from middle answer (Some (rule.Sequence x y)) is h k frames steps final e = takes_first first second from middle answer (looks first from) (agree first from (Some middle) h) h k frames steps final e
    takes_sequence first second from middle answer (Some (rule.Choice x y)) is h k frames steps final e = takes_first first second from middle answer (looks first from) (agree first from (Some middle) h) h k frames steps final e
    takes_sequence first second from middle answer (Some (rule.ZeroOrMore x)) is h k frames steps final e = takes_first first second from middle answer (looks first from) (agree first from (Some middle) h) h k frames steps final e
    takes_sequence first second from middle answer (Some (rule.Not x)) is h k frames steps final e = takes_first first second from middle answer (looks first from) (agree first from (Some middle) h) h k frames steps final e

    -- a choice whose first part fails
    pushed_choice : (first other : ℕ) (from : Position) (answer : Option Position) → P first from None → P other from answer → (frames : List Frame) (steps : ℕ) (final : Option Position)
        → EndsFrom (machine.answered answer) frames steps final → Goes (within first from (machine.in_choice other from)) frames final
    pushed_choice first other from answer h k frames steps final e =
        let behind = enters other from answer (looks other from) (agree other from answer k) k frames steps final e in
        f first from None h (machine.in_choice other from ∷ frames) (suc behind.0) final behind.1

    then_other : (first other : ℕ) (from : Position) (answer : Option Position) (look : Glance) → Agrees look from answer → P first from None → P other from answer → (frames : List Frame) (steps : ℕ) (final : Option Position)
        → EndsFrom (machine.answered answer) frames steps final → Goes (begun_try first other from look) frames final
    then_other first other from answer glance.Fails a h k frames steps final e = f first from None h frames steps final (answers answer None a frames steps final e)
    then_other first other from answer glance.Idles a h k frames steps final e = pushed_choice first other from answer h k frames steps final e
    then_other first other from answer glance.Open a h k frames steps final e = pushed_choice first other from answer h k frames steps final e

    other_taken : (first other : ℕ) (from : Position) (answer : Option Position) (look : Glance) → P first from None → P other from answer → (frames : List Frame) (steps : ℕ) (final : Option Position)
        → EndsFrom (machine.answered answer) frames steps final → Goes (begun_choice first other from look (looks other from)) frames final
    other_taken first other from answer glance.Fails h k frames steps final e = f other from answer k frames steps final e
    other_taken first other from answer glance.Idles h k frames steps final e =
        then_other first other from answer (looks other from) (agree other from answer k) h k frames steps final e
    other_taken first other from answer glance.Open h k frames steps final e =
        then_other first other from answer (looks other from) (agree other from answer k) h k frames steps final e

    -- a choice whose first part does not fail
    without_other : (first other : ℕ) (from to : Position) (look : Glance) → P first from (Some to) → (frames : List Frame) (steps : ℕ) (final : Option Position)
        → EndsFrom (machine.answered (Some to)) frames steps final → Goes (begun_try first other from look) frames final
    without_other first other from to glance.Fails h frames steps final e = f first from (Some to) h frames steps final e
    without_other first other from to glance.Idles h frames steps final e = f first from (Some to) h (machine.in_choice other from ∷ frames) (suc steps) final e
    without_other first other from to glance.Open h frames steps final e = f first from (Some to) h (machine.in_choice other from ∷ frames) (suc steps) final e

    first_taken : (first other : ℕ) (from to : Position) (look of_other : Glance) → Agrees look from (Some to) → P first from (Some to) → (frames : List Frame) (steps : ℕ) (final : Option Position)
        → EndsFrom (machine.answered (Some to)) frames steps final → Goes (begun_choice first other from look of_other) frames final
    first_taken first other from to glance.Fails of_other a h frames steps final e = absurd (cc a)
    first_taken first other from to glance.Idles of_other a h frames steps final e = without_other first other from to of_other h frames steps final e
    first_taken first other from to glance.Open of_other a h frames steps final e = without_other first other from to of_other h frames steps final e

    -- the expression of a name
    named : (b : Bool) (at other : ℕ) (from : Position) (answer found : Option Position) → P other (opened b at from) found → answer ≡ option_map (closed b (length from.log)) found
        → (frames : List Frame) (steps : ℕ) (final : Option Position) → EndsFrom (machine.answered answer) frames steps final → Goes (begun_name b at other from) frames final
    named true at other from answer None h is frames steps final e =
        f other (opened true at from) None h (machine.in_name (length from.log) ∷ frames) (suc steps) final (answers answer None is frames steps final e)
    named true at other from answer (Some to) h is frames steps final e =
        f other (opened true at from) (Some to) h (machine.in_name (length from.log) ∷ frames) (suc steps) final
        (answers answer (Some (closed true (length from.log) to)) is frames steps final e)
    named false at other from answer None h is frames steps final e = f other from None h frames steps final (answers answer None is frames steps final e)
    named false at other from answer (Some to) h is frames steps final e = f other from (Some to) h frames steps final (answers answer (Some to) is frames steps final e)

    leads_by : (at : ℕ) (from : Position) (answer : Option Position) (it : Option Rule) → Holds noting P at it from answer → (frames : List Frame) (steps : ℕ) (final : Option Position)
        → EndsFrom (machine.answered answer) frames steps final → Goes (begun_by noting looks rules at from it) frames final
    leads_by at from answer None h frames steps final e = (steps, answers answer None h frames steps final e)
    leads_by at from answer (Some rule.Empty) h frames steps final e = (steps, answers answer (Some from) h frames steps final e)
    leads_by at from answer (Some (rule.Unit wanted)) h frames steps final e = (steps, answers answer (takes noting wanted from) h frames steps final e)
    leads_by at from answer (Some (rule.Name other)) h frames steps final e =
        named noting at other from answer h.0 h.1 h.2 frames steps final e
    leads_by at from answer (Some (rule.Sequence first second)) (inl h) frames steps final e =
        fails_sequence first second from (slice_get rules first) refl h.0 frames steps final (answers answer None h.1 frames steps final e)
    leads_by at from answer (Some (rule.Sequence first second)) (inr h) frames steps final e =
        takes_sequence first second from h.0 answer (slice_get rules first) refl h.1 h.2 frames steps final e
    leads_by at from answer (Some (rule.Choice first other)) (inl h) frames steps final e =
        other_taken first other from answer (looks first from) h.0 h.1 frames steps final e
    leads_by at from answer (Some (rule.Choice first other)) (inr h) frames steps final e =
        first_taken first other from h.0 (looks first from) (looks other from) (agree first from (Some h.0) h.1) h.1 frames steps final
        (answers answer (Some h.0) h.2 frames steps final e)
    leads_by at from answer (Some (rule.ZeroOrMore part)) (inl h) frames steps final e =
        f part from None h.0 (machine.in_repetition at from ∷ frames) (suc steps) final (answers answer (Some from) h.1 frames steps final e)
    leads_by at from answer (Some (rule.ZeroOrMore part)) (inr h) frames steps final e =
        let behind = enters at h.0 answer (looks at h.0) (agree at h.0 answer h.2) h.2 frames steps final e in
        f part from (Some h.0) h.1 (machine.in_repetition at from ∷ frames) (suc behind.0) final behind.1
    leads_by at from answer (Some (rule.Not part)) (inl h) frames steps final e =
        f part from None h.0 (machine.in_not from ∷ frames) (suc steps) final (answers answer (Some from) h.1 frames steps final e)
    leads_by at from answer (Some (rule.Not part)) (inr h) frames steps final e =
        f part from (Some h.0) h.1 (machine.in_not from ∷ frames) (suc steps) final (answers answer None h.2 frames steps final e)

  module _ (agree : (depth : ℕ) → AgreesWith noting rules looks (ParsesIn noting rules depth)) where
    pub leads : (depth : ℕ) → Leads (ParsesIn noting rules depth)
    leads zero at from answer h frames steps final e = absurd h
    leads (suc depth) at from answer h frames steps final e =
        let it = leads_by (ParsesIn noting rules depth) (leads depth) (agree depth) (units_taken noting rules depth) at from answer (slice_get rules at) h frames steps final e in
        (suc it.0, it.1)

    -- The same if the expression is entered.
    pub leads_entered : (depth at : ℕ) (from : Position) (answer : Option Position) → ParsesIn noting rules depth at from answer → (frames : List Frame) (steps : ℕ) (final : Option Position)
        → EndsFrom (machine.answered answer) frames steps final → (all : ℕ) × EndsFrom (entered looks at from) frames all final
    leads_entered depth at from answer h frames steps final e =
        enters (ParsesIn noting rules depth) (leads depth) (agree depth) (units_taken noting rules depth) at from answer (looks at from) (agree depth at from answer h) h frames steps final e

  -- The machine stops only once, after one number of steps.
  pub one_end : (n m : ℕ) (at : State) (frames : List Frame) (answer other : Option Position)
      → Ends noting looks rules n at frames answer → Ends noting looks rules m at frames other → (n ≡ m) × (answer ≡ other)
  one_end zero m (machine.reading at from) frames answer other h k = absurd h
  one_end (suc n) zero (machine.reading at from) frames answer other h k = absurd k
  one_end (suc n) (suc m) (machine.reading at from) frames answer other h k =
      let it = one_end n m (begun noting looks rules at from).state (awaited (begun noting looks rules at from).waiting frames) answer other h k in
      (ap suc it.0, it.1)
  one_end zero zero (machine.answered found) [] answer other h k = (refl, sym h ∙ k)
  one_end zero (suc m) (machine.answered found) [] answer other h k = absurd k
  one_end (suc n) m (machine.answered found) [] answer other h k = absurd h
  one_end zero m (machine.answered found) (frame ∷ frames) answer other h k = absurd h
  one_end (suc n) zero (machine.answered found) (frame ∷ frames) answer other h k = absurd k
  one_end (suc n) (suc m) (machine.answered found) (frame ∷ frames) answer other h k =
      let it = one_end n m (resumed looks frame found) frames answer other h k in (ap suc it.0, it.1)
