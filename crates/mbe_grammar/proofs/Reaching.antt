-- The machine over trees: what its loop preserves, and why it ends.
use Rattle.std.proofs.Common.{◌≡◌, ◌<◌, ℕ, suc, zero, Bool, true, List, [], ◌∷◌, refl, sym, subst, ◌∙◌, arith}
use Rattle.std.specs.Prelude.{Option}
use Rattle.mbe_grammar.specs.declared.known.Glance.{Glance}
use Rattle.mbe_grammar.specs.declared.known.Known.{Known}
use Rattle.mbe_grammar.specs.declared.rule.Rule.{Rule}
use Rattle.mbe_grammar.specs.Good.{IsGood}
use Rattle.mbe_grammar.specs.Known.{glance_at, are_right}
use Rattle.mbe_grammar.specs.Machine.{Frame, State, Next, awaited, begun, resumed, entered, Ends, IsStep}
use Rattle.mbe_grammar.specs.Machine as machine
use Rattle.mbe_grammar.specs.Parses.{Parses}
use Rattle.mbe_grammar.specs.Positions.{Position}
use Rattle.mbe_grammar.proofs.Looking.{agrees}
use Rattle.mbe_grammar.proofs.Steps.{leads, leads_entered, one_end}
use Rattle.mbe_grammar.proofs.Total.{has, stops}

module _ (noting : Bool) (looks : ℕ → Position → Glance) (rules : List Rule) where
  -- After a step the machine ends as before it, one step sooner.
  pub goes_on : (at : State) (before : List Frame) (to : State) (after : List Frame) (count : ℕ) (answer : Option Position)
      → IsStep noting looks rules at before (machine.goes to) after → Ends noting looks rules count at before answer
      → (less : ℕ) × (count ≡ suc less) × Ends noting looks rules less to after answer
  goes_on (machine.reading at from) before to after zero answer s e = absurd e
  goes_on (machine.reading at from) before to after (suc count) answer s e =
      let same : (begun noting looks rules at from).state ≡ to = cc (s.0) in (
        count,
        refl,
        subst (λ fs. Ends noting looks rules count to fs answer) (sym s.1)
            (subst (λ t. Ends noting looks rules count t (awaited (begun noting looks rules at from).waiting before) answer) same e),
      )
  goes_on (machine.answered found) [] to after count answer s e = absurd (cc s)
  goes_on (machine.answered found) (frame ∷ before) to after zero answer s e = absurd e
  goes_on (machine.answered found) (frame ∷ before) to after (suc count) answer s e =
      let same : resumed looks frame found ≡ to = cc (s.0) in
      (count, refl, subst (λ fs. Ends noting looks rules count to fs answer) (sym s.1) (subst (λ t. Ends noting looks rules count t before answer) same e))

  -- When the machine stops, that is the answer.
  pub has_ended : (at : State) (before : List Frame) (found : Option Position) (after : List Frame) (count : ℕ) (answer : Option Position)
      → IsStep noting looks rules at before (machine.ends found) after → Ends noting looks rules count at before answer → found ≡ answer
  has_ended (machine.reading at from) before found after count answer s e = absurd (cc (s.0))
  has_ended (machine.answered other) [] found after zero answer s e = let same : found ≡ other = cc s in same ∙ e
  has_ended (machine.answered other) [] found after (suc count) answer s e = absurd e
  has_ended (machine.answered other) (frame ∷ before) found after count answer s e = absurd (cc (s.0))

module _ (noting : Bool) (known : List Known) (rules : List Rule) where
  -- what the loop preserves: the machine ends with an answer that the expression has
  pub record Reaches (at : ℕ) (from : Position) (now : State) (frames : List Frame) : Type 0 where
    pub answer : Option Position
    pub parses : Parses noting rules at from answer
    pub count : ℕ
    pub ends : Ends noting (glance_at known) rules count now frames answer

  module _ (good : IsGood rules) (right : are_right known rules 0 rules ≡ true) where
    -- how many steps are left
    unfoldable pub steps_left : State → List Frame → ℕ
    steps_left at frames = (stops noting rules good (glance_at known) (agrees noting known rules right) at frames).0

    pub reaches_first : (at : ℕ) (from : Position) → Reaches at from (machine.reading at from) []
    unfolding Parses
    reaches_first at from =
        let it = has noting rules good at from in
        let all = leads noting (glance_at known) rules (agrees noting known rules right) it.0 at from it.1 it.2 [] 0 it.1 refl in
        record { answer = it.1; parses = (it.0, it.2); count = all.0; ends = all.1 }

    pub reaches_entered : (at : ℕ) (from : Position) → Reaches at from (entered (glance_at known) at from) []
    unfolding Parses
    reaches_entered at from =
        let it = has noting rules good at from in
        let all = leads_entered noting (glance_at known) rules (agrees noting known rules right) it.0 at from it.1 it.2 [] 0 it.1 refl in
        record { answer = it.1; parses = (it.0, it.2); count = all.0; ends = all.1 }

    pub fewer_left : (at : State) (before : List Frame) (to : State) (after : List Frame)
        → IsStep noting (glance_at known) rules at before (machine.goes to) after → steps_left to after < steps_left at before
    unfolding steps_left
    fewer_left at before to after s =
        let was = stops noting rules good (glance_at known) (agrees noting known rules right) at before in
        let is = stops noting rules good (glance_at known) (agrees noting known rules right) to after in
        let on = goes_on noting (glance_at known) rules at before to after was.0 was.1 s was.2 in
        let same = (one_end noting (glance_at known) rules is.0 on.0 to after is.1 was.1 is.2 on.2).0 in
        let more : was.0 ≡ suc on.0 = on.1 in
        let fewer : is.0 ≡ on.0 = same in
        omega (arith, more, fewer)

  pub reaches_on : (at : ℕ) (from : Position) (now : State) (before : List Frame) (to : State) (after : List Frame)
      → IsStep noting (glance_at known) rules now before (machine.goes to) after → Reaches at from now before → Reaches at from to after
  reaches_on at from now before to after s r =
      let on = goes_on noting (glance_at known) rules now before to after r.count r.answer s r.ends in
      record { answer = r.answer; parses = r.parses; count = on.0; ends = on.2 }

  pub reaches_last : (at : ℕ) (from : Position) (now : State) (before : List Frame) (found : Option Position) (after : List Frame)
      → IsStep noting (glance_at known) rules now before (machine.ends found) after → Reaches at from now before → Parses noting rules at from found
  reaches_last at from now before found after s r =
      subst (Parses noting rules at from) (sym (has_ended noting (glance_at known) rules now before found after r.count r.answer s r.ends)) r.parses
