-- What the search for the wanted units preserves, and what it has found at its end.
use Rattle.std.proofs.Common.{◌≡◌, inl, inr, ◌-◌, ◌≤◌, ℕ, Bool, true, false, cond, List, [], ◌∷◌, ◌++◌, length, reverse, take, Some, None, eqb-true, nat_eq, refl, sym, subst, ap, ◌∙◌, arith}
use Rattle.std.proofs.lemmas.List.{reverse-reverse, reverse-append, length-append, length-reverse}
use Rattle.std.specs.Prelude.{◌⊎◌, slice_get, Option}
use Rattle.mbe_grammar.specs.declared.machine.Frame.{Frame}
use Rattle.mbe_grammar.specs.declared.machine.Frame.TheVariants as frame
use Rattle.mbe_grammar.specs.declared.machine.State.{State}
use Rattle.mbe_grammar.specs.declared.machine.State.TheVariants as state
use Rattle.mbe_grammar.specs.declared.rule.Rule.{Rule}
use Rattle.mbe_grammar.specs.declared.rule.Rule.TheVariants as rule
use Rattle.tt.specs.Forest.{Forest}
use Rattle.mbe_grammar.specs.declared.entry.Entry.{Entry}
use Rattle.mbe_grammar.specs.declared.trying.Wanted.{Wanted}
use Rattle.mbe_grammar.specs.Known.{glance_at}
use Rattle.mbe_grammar.specs.Machine.{awaited, begun_behind, begun_sequence, begun_by, begun, IsStep}
use Rattle.mbe_grammar.specs.Machine as machine
use Rattle.mbe_grammar.specs.Parses.{Parses}
use Rattle.mbe_grammar.specs.Positions.{Position, takes}
use Rattle.mbe_grammar.specs.Running.{state_at, left_in, frames_of}
use Rattle.mbe_grammar.specs.Tried.{tried_by, tried_now, negations, more_negations, fewer_negations, negations_after, Counts, IsShort, IsNoted, IsStopped}
use Rattle.mbe_grammar.specs.Trying.{Tries, IsOneOf, IsAscending, IsListed, IsFarthest}
use Rattle.mbe_grammar.proofs.OneAnswer.{one_answer_in}
use Rattle.mbe_grammar.proofs.WillTry.{WillTry, TriesNow, first_will, will_first, step_split, now_tried, step_join, last_tries}

module _ (rules : List Rule) where
  -- the unit that the next step tries after that many trees, if any
  pub record Shows (now : machine.State) (frames : List machine.Frame) (tried : Option ℕ) (passed : ℕ) : Type 0 where
    pub to : (unit place : ℕ) → TriesNow rules unit place now frames → (tried ≡ Some unit) × (place ≡ passed)
    pub back : (unit : ℕ) → tried ≡ Some unit → TriesNow rules unit passed now frames

  pub shows : (here : Position) (s : State) (frames : List machine.Frame) → Shows (state_at here s) frames (tried_now rules s (negations frames)) here.passed
  shows here (state.Answered ends) frames = record { to = λ unit place n. absurd n; back = λ unit e. absurd (cc e) }
  shows here (state.Reading at) frames = record {
    to = λ unit place n. (ap (λ k. cond (nat_eq k 0) (tried_by rules at (slice_get rules at)) None) n.0 ∙ n.1, n.2);
    back = λ unit e. by unit (nat_eq (negations frames) 0) refl e;
  }
    where
      by : (unit : ℕ) (b : Bool) → nat_eq (negations frames) 0 ≡ b → cond b (tried_by rules at (slice_get rules at)) None ≡ Some unit → TriesNow rules unit here.passed (machine.reading at here) frames
      by unit true f e = (eqb-true (negations frames) 0 f, e, refl)
      by unit false f e = absurd (cc e)

  module _ (at : ℕ) (from : Position) where
    -- what the expression tries, the rest of the run tries or it counts; and it tries all of them
    pub record Seeks (now : machine.State) (frames : List machine.Frame) (wanted : Wanted) : Type 0 where
      pub rest : (unit place : ℕ) → WillTry rules unit place now frames → Tries rules at from unit place
      pub tried : (unit : ℕ) → IsOneOf wanted.units.items unit → Tries rules at from unit wanted.passed
      pub all : (unit place : ℕ) → Tries rules at from unit place → WillTry rules unit place now frames ⊎ Counts wanted unit place
      pub short : IsShort wanted
      pub nothing : wanted.units.items ≡ [] → wanted.passed ≡ from.passed

    pub seeks_first : (wanted : Wanted) → wanted.units.items ≡ [] → wanted.passed ≡ from.passed → Seeks (machine.reading at from) [] wanted
    seeks_first wanted none place = record {
      rest = λ unit there w. will_first rules unit there at from w;
      tried = λ unit h. absurd (subst (λ xs. IsOneOf xs unit) none h);
      all = λ unit there t. inl (first_will rules unit there at from t);
      short = (subst IsAscending (sym none) tt, subst (λ xs. length xs ≤ 8) (sym none) (omega arith));
      nothing = λ e. place;
    }

    -- the farthest place where the expression tries a unit, and those that it tries there
    pub record HasTried (wanted : Wanted) : Type 0 where
      pub farthest : (unit other : ℕ) → Tries rules at from unit other → other ≤ wanted.passed
      pub tried : (unit : ℕ) → IsOneOf wanted.units.items unit → Tries rules at from unit wanted.passed
      pub listed : (unit : ℕ) → Tries rules at from unit wanted.passed → IsListed wanted.units.items unit
      pub ascending : IsAscending wanted.units.items
      pub few : length wanted.units.items ≤ 8
      pub nothing : wanted.units.items ≡ [] → wanted.passed ≡ from.passed

    one_end : (to other : Position) → Parses false rules at from (Some to) → Parses false rules at from (Some other) → other ≡ to
    unfolding Parses
    one_end to other h k = cc (one_answer_in false rules k.0 h.0 at from (Some other) (Some to) k.1 h.1)

    no_end : (to : Position) → Parses false rules at from None → Parses false rules at from (Some to) → ⊥
    unfolding Parses
    no_end to h k = absurd (cc (one_answer_in false rules h.0 k.0 at from None (Some to) h.1 k.1))

    -- If the expression fails, that is the farthest place.
    pub farthest_failed : (wanted : Wanted) → HasTried wanted → Parses false rules at from None → IsFarthest rules at from wanted.passed wanted.units.items
    farthest_failed wanted h p = record {
      farthest = h.farthest;
      stops = λ to k. absurd (no_end to p k);
      tried = h.tried;
      listed = h.listed;
      ascending = h.ascending;
      few = h.few;
      nothing = λ e. inl (h.nothing e);
    }

    -- If it ends, the place where it ends counts too.
    pub farthest_ended : (old new : Wanted) (to : Position) → HasTried old → Parses false rules at from (Some to) → IsStopped to.passed old new → IsFarthest rules at from new.passed new.units.items
    farthest_ended old new to h p (inl (less, place, none)) = record {
      farthest = λ unit other t. let le = h.farthest unit other t in omega (arith, le, less, place);
      stops = λ other k. let same = ap (λ (it : Position). it.passed) (one_end to other p k) in omega (arith, same, place);
      tried = λ unit k. absurd (subst (λ units. IsOneOf units unit) none k);
      listed = λ unit t. let le = h.farthest unit new.passed t in absurd (omega (arith, le, less, place));
      ascending = subst IsAscending (sym none) tt;
      few = subst (λ units. length units ≤ 8) (sym none) (omega arith);
      nothing = λ e. inr (to, p, place);
    }
    farthest_ended old new to h p (inr (le, same)) = subst (λ (it : Wanted). IsFarthest rules at from it.passed it.units.items) (sym same) (record {
      farthest = h.farthest;
      stops = λ other k. let is = ap (λ (it : Position). it.passed) (one_end to other p k) in omega (arith, is, le);
      tried = h.tried;
      listed = h.listed;
      ascending = h.ascending;
      few = h.few;
      nothing = λ e. inl (h.nothing e);
    })

    module _ (now : machine.State) (before : List machine.Frame) (old new : Wanted) (tried : Option ℕ) (passed : ℕ)
        (shown : Shows now before tried passed) (noted : IsNoted tried passed old new) (seeks : Seeks now before old) where
      tried_new : (unit : ℕ) → IsOneOf new.units.items unit → Tries rules at from unit new.passed
      tried_new unit h = by (noted.less unit h)
        where
          by : ((tried ≡ Some unit) × (new.passed ≡ passed)) ⊎ (IsOneOf old.units.items unit × (new.passed ≡ old.passed)) → Tries rules at from unit new.passed
          by (inl (e, same)) = subst (Tries rules at from unit) (sym same) (seeks.rest unit passed (now_tried rules unit passed now before (shown.back unit e)))
          by (inr (k, same)) = subst (Tries rules at from unit) (sym same) (seeks.tried unit k)

      nothing_new : new.units.items ≡ [] → new.passed ≡ from.passed
      nothing_new e = let it = noted.nothing e in it.1 ∙ seeks.nothing it.0

      -- After a step the search knows as much.
      pub seeks_on : (to : machine.State) (after : List machine.Frame) → IsStep false (glance_at []) rules now before (machine.goes to) after → Seeks to after new
      seeks_on to after s = record {
        rest = λ unit place w. seeks.rest unit place (step_join rules unit place now before to after s w);
        tried = tried_new;
        all = λ unit place t. known unit place (seeks.all unit place t);
        short = noted.short;
        nothing = nothing_new;
      }
        where
          stepped : (unit place : ℕ) → TriesNow rules unit place now before ⊎ WillTry rules unit place to after → WillTry rules unit place to after ⊎ Counts new unit place
          stepped unit place (inl n) = let it = shown.to unit place n in inr (subst (Counts new unit) (sym it.1) (noted.held unit it.0))
          stepped unit place (inr w) = inl w

          known : (unit place : ℕ) → WillTry rules unit place now before ⊎ Counts old unit place → WillTry rules unit place to after ⊎ Counts new unit place
          known unit place (inl w) = stepped unit place (step_split rules unit place now before to after s w)
          known unit place (inr c) = inr (noted.more unit place c)

      -- At the end it has found the farthest place where a unit is tried.
      pub seeks_last : (found : Option Position) (after : List machine.Frame) → IsStep false (glance_at []) rules now before (machine.ends found) after → HasTried new
      seeks_last found after s = record {
        farthest = λ unit other t. no_farther unit other (counted unit other (seeks.all unit other t));
        tried = tried_new;
        listed = λ unit t. here unit (counted unit new.passed (seeks.all unit new.passed t));
        ascending = noted.short.0;
        few = noted.short.1;
        nothing = nothing_new;
      }
        where
          counted : (unit place : ℕ) → WillTry rules unit place now before ⊎ Counts old unit place → Counts new unit place
          counted unit place (inl w) = absurd (last_tries rules unit place now before found after s w)
          counted unit place (inr c) = noted.more unit place c

          no_farther : (unit place : ℕ) → Counts new unit place → place ≤ new.passed
          no_farther unit place (inl less) = omega (arith, less)
          no_farther unit place (inr (same, listed)) = omega (arith, same)

          here : (unit : ℕ) → Counts new unit new.passed → IsListed new.units.items unit
          here unit (inl less) = absurd (omega (arith, less))
          here unit (inr (same, listed)) = listed

  -- How many negations wait after an expression begins.
  behind_none : (second : ℕ) (answer : Option Position) (frames : List machine.Frame) → negations (awaited (begun_behind (glance_at []) second answer).waiting frames) ≡ negations frames
  behind_none second None frames = refl
  behind_none second (Some middle) frames = refl

  sequence_none : (first second : ℕ) (from : Position) (it : Option Rule) (frames : List machine.Frame)
      → negations (awaited (begun_sequence false (glance_at []) first second from it).waiting frames) ≡ negations frames
  sequence_none first second from (Some (rule.Unit wanted)) frames = behind_none second (takes false wanted from) frames
  sequence_none first second from None frames = refl
  sequence_none first second from (Some rule.Empty) frames = refl
  sequence_none first second from (Some (rule.Name x)) frames = refl
  sequence_none first second from (Some (rule.Sequence x y)) frames = refl
  sequence_none first second from (Some (rule.Choice x y)) frames = refl
  sequence_none first second from (Some (rule.ZeroOrMore x)) frames = refl
  sequence_none first second from (Some (rule.Not x)) frames = refl

  begun_more : (at : ℕ) (from : Position) (it : Option Rule) (frames : List machine.Frame)
      → negations (awaited (begun_by false (glance_at []) rules at from it).waiting frames) ≡ more_negations it (negations frames)
  begun_more at from None frames = refl
  begun_more at from (Some rule.Empty) frames = refl
  begun_more at from (Some (rule.Unit wanted)) frames = refl
  begun_more at from (Some (rule.Name x)) frames = refl
  begun_more at from (Some (rule.Sequence first second)) frames = sequence_none first second from (slice_get rules first) frames
  begun_more at from (Some (rule.Choice x y)) frames = refl
  begun_more at from (Some (rule.ZeroOrMore x)) frames = refl
  begun_more at from (Some (rule.Not x)) frames = refl

  -- the newest of the frames
  abbrev newest : List Frame → Option Frame
  newest [] = None
  newest (it ∷ older) = Some it

  answered_fewer : (trees : Forest) (log : List Entry) (it : Frame) (older : List Frame) → negations (frames_of trees (left_in log it) older) ≡ fewer_negations (Some it) (negations (frames_of trees log (it ∷ older)))
  answered_fewer trees log (frame.InName since) older = refl
  answered_fewer trees log (frame.InSequence second) older = refl
  answered_fewer trees log (frame.InChoice other kept) older = refl
  answered_fewer trees log (frame.InRepetition at kept) older = refl
  answered_fewer trees log (frame.InNot kept) older = omega arith

  waits_after : (trees : Forest) (log : List Entry) (here : Position) (s : State) (frames : List Frame) (to : machine.State) (after : List machine.Frame)
      → IsStep false (glance_at []) rules (state_at here s) (frames_of trees log frames) (machine.goes to) after
      → negations after ≡ negations_after rules s (newest frames) (negations (frames_of trees log frames))
  waits_after trees log here (state.Reading at) frames to after s = ap negations s.1 ∙ begun_more at here (slice_get rules at) (frames_of trees log frames)
  waits_after trees log here (state.Answered ends) [] to after s = absurd (cc s)
  waits_after trees log here (state.Answered ends) (it ∷ older) to after s = ap negations s.1 ∙ answered_fewer trees log it older

  last_at : (front : List Frame) (it : Frame) → slice_get (front ++ it ∷ []) (length front) ≡ Some it
  last_at [] it = refl
  last_at (one ∷ front) it = last_at front it

  last_behind : (front : List Frame) (it : Frame) → slice_get (front ++ it ∷ []) (length (front ++ it ∷ []) - 1) ≡ Some it
  last_behind front it =
      let same : length (front ++ it ∷ []) - 1 ≡ length front = omega (arith, length-append front (it ∷ [])) in
      ap (slice_get (front ++ it ∷ [])) same ∙ last_at front it

  newest_last : (frames : List Frame) → newest frames ≡ slice_get (reverse frames) (length (reverse frames) - 1)
  newest_last [] = refl
  newest_last (it ∷ older) = sym (ap (λ fs. slice_get fs (length fs - 1)) (reverse-append (it ∷ []) older) ∙ last_behind (reverse older) it)

  -- The count of the negations that wait after a step is right.
  pub counted_on : (trees : Forest) (log : List Entry) (here : Position) (s : State) (items : List Frame) (to : machine.State) (after : List machine.Frame)
      → IsStep false (glance_at []) rules (state_at here s) (frames_of trees log (reverse items)) (machine.goes to) after
      → negations after ≡ negations_after rules s (slice_get items (length items - 1)) (negations (frames_of trees log (reverse items)))
  counted_on trees log here s items to after step =
      waits_after trees log here s (reverse items) to after step
      ∙ ap (λ it. negations_after rules s it (negations (frames_of trees log (reverse items)))) (newest_last (reverse items) ∙ ap (λ fs. slice_get fs (length fs - 1)) (reverse-reverse items))

few_negations : (trees : Forest) (log : List Entry) (frames : List Frame) → negations (frames_of trees log frames) ≤ length frames
few_negations trees log [] = omega arith
few_negations trees log (frame.InName since ∷ older) = omega (arith, few_negations trees (take since log) older)
few_negations trees log (frame.InSequence second ∷ older) = omega (arith, few_negations trees log older)
few_negations trees log (frame.InChoice at kept ∷ older) = omega (arith, few_negations trees (left_in log (frame.InChoice at kept)) older)
few_negations trees log (frame.InRepetition at kept ∷ older) = omega (arith, few_negations trees (left_in log (frame.InRepetition at kept)) older)
few_negations trees log (frame.InNot kept ∷ older) = omega (arith, few_negations trees (left_in log (frame.InNot kept)) older)

-- There are no more negations than frames.
pub few : (trees : Forest) (log : List Entry) (items : List Frame) → negations (frames_of trees log (reverse items)) ≤ length items
few trees log items = subst (λ n. negations (frames_of trees log (reverse items)) ≤ n) (length-reverse items) (few_negations trees log (reverse items))
