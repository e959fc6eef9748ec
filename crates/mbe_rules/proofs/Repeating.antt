-- How a partly filled template goes on at the end of a subtree, and at the beginning and the end of a repetition.
use Rattle.std.proofs.Common.{◌≡◌, ◌<◌, ◌≤◌, ℕ, zero, suc, List, [], ◌∷◌, map, drop, Some, Result, Ok, Err, refl, ap, ap₂, sym, subst, ◌∙◌, arith}
use Rattle.tt.specs.Building.{Stack, append, close_innermost, tokens_held}
use Rattle.tt.specs.Siblings.{leaves}
use Rattle.tt.specs.Types.Leaf.{Leaf}
use Rattle.tt.specs.Types.Span.{Span}
use Rattle.mbe_pattern.specs.declared.pattern.RepeatKind.{RepeatKind}
use Rattle.mbe_matcher.specs.Bindings.{Binding}
use Rattle.mbe_rules.specs.declared.counting.Count.TheVariants.{Unknown}
use Rattle.mbe_rules.specs.declared.taken.Round.{Round}
use Rattle.mbe_rules.specs.Counting.{counted_all, rounds_by, uses_before, kind_before, behind_close}
use Rattle.mbe_rules.specs.Transcribing.{TranscribeFault, all_transcribed, and_then, more_rounds, transcribed_if, transcribed, first_of, others_of, in_round, rounds_of, counts_of, used_in}
use Rattle.mbe_rules.specs.Parts.{Bit, leave, begin, close, bits_of}
use Rattle.mbe_rules.specs.Filling.{later, bound_here, IsEnd, AreLevels}
use Rattle.mbe_rules.specs.Templates.{Template, nothing, use_of, token, subtree, repetition}
use Rattle.mbe_rules.specs.Working.{known, work_in_rounds, work}
use Rattle.mbe_rules.specs.Writing.{Closing, last, shut, again, Level, end_of, write, behind_end, finished}
use Rattle.mbe_rules.proofs.Going.{level_of, Next}
use Rattle.mbe_rules.proofs.Rounding.{bound_inside, first_round, other_rounds}
use Rattle.mbe_rules.proofs.Scans.{scanned_uses, scanned_kind, scanned_behind, rounds_counted}
use Rattle.mbe_rules.proofs.Writes.{sound, write_nothing, write_both, fault_ends}

-- how often the repetition with these parts is filled
abbrev pub asked : (at : ℕ) → Binding → List Bit → Result ℕ TranscribeFault
asked at here bits = rounds_by at (kind_before 0 bits) (counted_all (counts_of here (uses_before 0 bits)) Unknown)

-- Its template determines the number.
asked_is : (at : ℕ) (here : Binding) (inner : Template) (separator : List Leaf) (kind : RepeatKind) (behind : List Bit)
    → asked at here (bits_of inner (close separator kind ∷ behind)) ≡ rounds_of at kind (counts_of here (used_in inner))
asked_is at here inner separator kind behind =
    ap₂ (λ k l. rounds_by at k (counted_all (counts_of here l) Unknown)) (scanned_kind inner separator kind behind) (scanned_uses inner separator kind behind)
    ∙ sym (rounds_counted at kind (counts_of here (used_in inner)))

module _ (bits : List Bit) (whole : Binding) (left : List Bit) where
  module _ (outer : List Level) (binding : Binding) (behind : List Bit) where
    -- The end of the template, or of a subtree.
    end_all : (closing : Closing) (rounds : List Round) (rest : Template) → leave ∷ left ≡ bits_of rest (end_of closing ∷ behind)
        → IsEnd bits whole (λ more others. AreLevels bits whole outer more others behind) closing rounds [] behind
        → Next bits whole (level_of rest binding closing ∷ outer) rounds [] left (λ stack. stack)
    end_all last rounds nothing is ends =
        record {
          news = outer;
          agree = subst_left (cc is) (ends.1);
          same = λ stack. ap (finished outer) (write_nothing (sound stack));
          less = omega arith;
        }
      where
        subst_left : {rest : List Bit} → rest ≡ left → AreLevels bits whole outer rounds [] rest → AreLevels bits whole outer rounds [] left
        subst_left e it = subst (λ l. AreLevels bits whole outer rounds [] l) e it
    end_all (shut span) rounds nothing is (others, some, more) = absurd (cc some)
    end_all (again body separator kind n others) rounds nothing is ends = absurd (cc is)
    end_all closing rounds (use_of there which less others) is ends = absurd (cc is)
    end_all closing rounds (token other others) is ends = absurd (cc is)
    end_all closing rounds (subtree delimiter inner others) is ends = absurd (cc is)
    end_all closing rounds (repetition there inner separator kind others) is ends = absurd (cc is)

    end_subtree : (closing : Closing) (rounds : List Round) (span : Span) (more : List Span) (rest : Template) → leave ∷ left ≡ bits_of rest (end_of closing ∷ behind)
        → IsEnd bits whole (λ more others. AreLevels bits whole outer more others behind) closing rounds (span ∷ more) behind
        → Next bits whole (level_of rest binding closing ∷ outer) rounds more left (close_innermost span)
    end_subtree last rounds span more nothing is ends = absurd (cc ends.0)
    end_subtree (shut other) rounds span more nothing is (others, some, ends) =
        record {
          news = outer;
          agree = moved (cc some) (cc is) ends;
          same = λ stack. ap (λ w. finished outer (behind_end (shut other) w)) (write_nothing (sound stack)) ∙ ap (λ s. finished outer (sound (close_innermost s stack))) same_span;
          less = omega arith;
        }
      where
        same_span : other ≡ span
        same_span = cc some

        moved : others ≡ more → behind ≡ left → AreLevels bits whole outer rounds others behind → AreLevels bits whole outer rounds more left
        moved e f it = subst (λ l. AreLevels bits whole outer rounds more l) f (subst (λ l. AreLevels bits whole outer rounds l behind) e it)
    end_subtree (again body separator kind n others) rounds span more nothing is ends = absurd (cc is)
    end_subtree closing rounds span more (use_of there which less others) is ends = absurd (cc is)
    end_subtree closing rounds span more (token other others) is ends = absurd (cc is)
    end_subtree closing rounds span more (subtree delimiter inner others) is ends = absurd (cc is)
    end_subtree closing rounds span more (repetition there inner separator kind others) is ends = absurd (cc is)

  module _ (outer : List Level) (rounds : List Round) (closes : List Span) (binding : Binding) (closing : Closing) (behind : List Bit)
      (bound : binding ≡ bound_here whole rounds)
      (ends : IsEnd bits whole (λ more others. AreLevels bits whole outer more others behind) closing rounds closes behind)
      (at : ℕ) (inner : Template) (separator : List Leaf) (kind : RepeatKind) (others : Template)
      (held : left ≡ bits_of inner (close separator kind ∷ bits_of others (end_of closing ∷ behind))) where
    -- how often it is filled
    asked_as : (n : Result ℕ TranscribeFault) → asked at (bound_here whole rounds) left ≡ n → rounds_of at kind (counts_of binding (used_in inner)) ≡ n
    asked_as n is =
        sym (asked_is at binding inner separator kind (bits_of others (end_of closing ∷ behind)))
        ∙ ap (asked at binding) (sym held) ∙ ap (λ b. asked at b left) bound ∙ is

    -- what is written of it, and then of the others
    written_as : (n : Result ℕ TranscribeFault) (stack : Stack) → asked at (bound_here whole rounds) left ≡ n
        → finished (level_of (repetition at inner separator kind others) binding closing ∷ outer) (sound stack)
        ≡ finished outer (behind_end closing (write (transcribed others binding) (write (transcribed_if (transcribed inner) (leaves separator) n binding) (sound stack))))
    written_as n stack is =
        ap (λ w. finished outer (behind_end closing w))
        (write_both (transcribed_if (transcribed inner) (leaves separator) (rounds_of at kind (counts_of binding (used_in inner))) binding) (transcribed others binding) (sound stack))
        ∙ ap (λ r. finished outer (behind_end closing (write (transcribed others binding) (write (transcribed_if (transcribed inner) (leaves separator) r binding) (sound stack))))) (asked_as n is)

    -- It has no round.
    begin_none : asked at (bound_here whole rounds) left ≡ Ok 0
        → Next bits whole (level_of (repetition at inner separator kind others) binding closing ∷ outer) rounds closes (behind_close 0 left) (λ stack. stack)
    begin_none is =
        record {
          news = level_of others binding closing ∷ outer;
          agree =
              (behind, ap (behind_close 0) held ∙ scanned_behind inner separator kind (bits_of others (end_of closing ∷ behind)), bound, ends);
          same =
              λ stack. written_as (Ok 0) stack is ∙ ap (λ w. finished outer (behind_end closing (write (transcribed others binding) w))) (write_nothing (sound stack));
          less = omega arith;
        }

    -- It has some.
    begin_some : (n body : ℕ) → asked at (bound_here whole rounds) left ≡ Ok (suc n) → drop body bits ≡ left
        → Next bits whole (level_of (repetition at inner separator kind others) binding closing ∷ outer) (record { body = body; done = 0; last = n } ∷ rounds) closes left
        (λ stack. stack)
    begin_some n body is here =
        let it : Round = record { body = body; done = 0; last = n } in
        record {
          news =
              level_of inner (map (in_round first_of) binding) (again inner separator kind n (map (in_round others_of) binding)) ∷ level_of others binding closing ∷ outer;
          agree = (
            bits_of others (end_of closing ∷ behind),
            held,
            ap (map (in_round first_of)) bound ∙ bound_inside whole it rounds,
            (
              it,
              rounds,
              refl,
              record { begins = here ∙ held; count = omega arith; bound = ap (map (in_round others_of)) bound },
              (behind, refl, bound, ends),
            ),
          );
          same =
              λ stack. written_as (Ok (suc n)) stack is
              ∙ ap (λ w. finished outer (behind_end closing (write (transcribed others binding) w)))
              (write_both (transcribed inner (map (in_round first_of) binding)) (more_rounds (transcribed inner) (leaves separator) n (map (in_round others_of) binding)) (sound stack));
          less = omega (arith, ap (λ r. work_in_rounds (work inner) (known r) binding) (asked_as (Ok (suc n)) is));
        }

    -- The number of rounds is a fault.
    begin_fault : (fault : TranscribeFault) (stack : Stack) → asked at (bound_here whole rounds) left ≡ Err fault
        → ((finished (level_of (repetition at inner separator kind others) binding closing ∷ outer) (sound stack)).fault ≡ Some fault)
        × (tokens_held (finished (level_of (repetition at inner separator kind others) binding closing ∷ outer) (sound stack)).stack ≡ tokens_held stack)
    begin_fault fault stack is =
        let (first, kept) = fault_ends (level_of others binding closing ∷ outer) fault stack in
        (ap (λ w. w.fault) (written_as (Err fault) stack is) ∙ first, ap (λ w. tokens_held w.stack) (written_as (Err fault) stack is) ∙ kept)

  module _ (outer : List Level) (binding : Binding) (behind : List Bit) (closes : List Span) (separator : List Leaf) (kind : RepeatKind)
      (it : Round) (more : List Round) where
    -- The end of the last round.
    close_last : (closing : Closing) (rest : Template) → close separator kind ∷ left ≡ bits_of rest (end_of closing ∷ behind)
        → IsEnd bits whole (λ rounds others. AreLevels bits whole outer rounds others behind) closing (it ∷ more) closes behind → it.last ≤ it.done
        → Next bits whole (level_of rest binding closing ∷ outer) more closes left (λ stack. stack)
    close_last last nothing is ends past = absurd (cc is)
    close_last (shut span) nothing is ends past = absurd (cc is)
    close_last (again body other_separator other_kind (suc n) others) nothing is (this, rest, is_first, round, agree) past = absurd (by (cc is_first))
      where
        by : this ≡ it → ⊥
        by e = omega (arith, round.count, ap (λ r. r.done) e, ap (λ r. r.last) e, past)
    close_last (again body other_separator other_kind zero others) nothing is (this, rest, is_first, round, agree) past =
        record {
          news = outer;
          agree = moved (cc is_first) (cc is) agree;
          same =
              λ stack. ap (λ w. finished outer (behind_end (again body other_separator other_kind zero others) w)) (write_nothing (sound stack))
              ∙ ap (finished outer) (write_nothing (sound stack));
          less = omega arith;
        }
      where
        moved : rest ≡ more → behind ≡ left → AreLevels bits whole outer rest closes behind → AreLevels bits whole outer more closes left
        moved e f it = subst (λ l. AreLevels bits whole outer more closes l) f (subst (λ l. AreLevels bits whole outer l closes behind) e it)
    close_last closing (use_of there which less others) is ends past = absurd (cc is)
    close_last closing (token other others) is ends past = absurd (cc is)
    close_last closing (subtree delimiter inner others) is ends past = absurd (cc is)
    close_last closing (repetition there inner other_separator other_kind others) is ends past = absurd (cc is)

    -- The end of another round.
    close_again : (closing : Closing) (rest : Template) → close separator kind ∷ left ≡ bits_of rest (end_of closing ∷ behind)
        → IsEnd bits whole (λ rounds others. AreLevels bits whole outer rounds others behind) closing (it ∷ more) closes behind → it.done < it.last
        → Next bits whole (level_of rest binding closing ∷ outer) (record { body = it.body; done = suc it.done; last = it.last } ∷ more) closes (drop it.body bits)
        (append (leaves separator))
    close_again last nothing is ends within = absurd (cc is)
    close_again (shut span) nothing is ends within = absurd (cc is)
    close_again (again body other_separator other_kind zero others) nothing is (this, rest, is_first, round, agree) within = absurd (by (cc is_first))
      where
        by : this ≡ it → ⊥
        by e = omega (arith, round.count, ap (λ r. r.done) e, ap (λ r. r.last) e, within)
    close_again (again body other_separator other_kind (suc n) others) nothing is (this, rest, is_first, round, agree) within =
        record {
          news = level_of body (map (in_round first_of) others) (again body other_separator other_kind n (map (in_round others_of) others)) ∷ outer;
          agree = (
            behind,
            ap (λ r. drop r.body bits) (sym same_round) ∙ round.begins,
            bound_in_it,
            (
              next,
              more,
              refl,
              record {
                begins = ap (λ r. drop r.body bits) (sym same_round) ∙ round.begins;
                count = omega (arith, round.count, ap (λ r. r.done) same_round, ap (λ r. r.last) same_round);
                bound = ap (map (in_round others_of)) bound_outside ∙ other_rounds (suc it.done) (bound_here whole more);
              },
              subst (λ l. AreLevels bits whole outer l closes behind) same_rest agree,
            ),
          );
          same =
              λ stack. ap (λ w. finished outer (behind_end (again body other_separator other_kind (suc n) others) w)) (write_nothing (sound stack))
              ∙ ap (finished outer) (rounds_written stack);
          less = omega arith;
        }
      where
        next : Round
        next = record { body = it.body; done = suc it.done; last = it.last }

        same_round : this ≡ it
        same_round = cc is_first

        same_rest : rest ≡ more
        same_rest = cc is_first

        same_separator : other_separator ≡ separator
        same_separator = cc is

        bound_outside : others ≡ map (in_round (later (suc it.done))) (bound_here whole more)
        bound_outside = round.bound ∙ ap₂ (λ r l. map (in_round (later (suc r.done))) (bound_here whole l)) same_round same_rest

        bound_in_it : map (in_round first_of) others ≡ bound_here whole (next ∷ more)
        bound_in_it = ap (map (in_round first_of)) bound_outside ∙ first_round (suc it.done) (bound_here whole more) ∙ bound_inside whole next more

        rounds_written : (stack : Stack)
            → write (more_rounds (transcribed body) (leaves other_separator) (suc n) others) (sound stack)
            ≡ write (more_rounds (transcribed body) (leaves other_separator) n (map (in_round others_of) others))
            (write (transcribed body (map (in_round first_of) others)) (sound (append (leaves separator) stack)))
        rounds_written stack =
            let first = transcribed body (map (in_round first_of) others) in
            let behind_first = more_rounds (transcribed body) (leaves other_separator) n (map (in_round others_of) others) in
            write_both (all_transcribed (leaves other_separator)) (and_then first behind_first) (sound stack)
            ∙ write_both first behind_first (sound (append (leaves other_separator) stack))
            ∙ ap (λ l. write behind_first (write first (sound (append (leaves l) stack)))) same_separator
    close_again closing (use_of there which less others) is ends within = absurd (cc is)
    close_again closing (token other others) is ends within = absurd (cc is)
    close_again closing (subtree delimiter inner others) is ends within = absurd (cc is)
    close_again closing (repetition there inner other_separator other_kind others) is ends within = absurd (cc is)

-- a repetition comes first
record Repeats (rest : Template) (closing : Closing) (behind : List Bit) (at : ℕ) (left : List Bit) : Type 0 where
  pub inner : Template
  pub separator : List Leaf
  pub kind : RepeatKind
  pub others : Template
  pub is : rest ≡ repetition at inner separator kind others
  pub held : left ≡ bits_of inner (close separator kind ∷ bits_of others (end_of closing ∷ behind))

-- If the parts begin a repetition, a repetition comes first.
repeats : (rest : Template) (closing : Closing) (behind : List Bit) (at : ℕ) (left : List Bit) → begin at ∷ left ≡ bits_of rest (end_of closing ∷ behind)
    → Repeats rest closing behind at left
repeats nothing last behind at left is = absurd (cc is)
repeats nothing (shut span) behind at left is = absurd (cc is)
repeats nothing (again body separator kind n others) behind at left is = absurd (cc is)
repeats (use_of there which less others) closing behind at left is = absurd (cc is)
repeats (token it others) closing behind at left is = absurd (cc is)
repeats (subtree delimiter inner others) closing behind at left is = absurd (cc is)
repeats (repetition there inner separator kind others) closing behind at left is =
    record { inner = inner; separator = separator; kind = kind; others = others; is = ap (λ a. repetition a inner separator kind others) same_at; held = cc is }
  where
    same_at : there ≡ at
    same_at = cc is

module _ (bits : List Bit) (whole : Binding) (rounds : List Round) (left : List Bit) where
  -- The template is at its end, or a subtree is.
  pub goes_leave_all : (levels : List Level) → AreLevels bits whole levels rounds [] (leave ∷ left) → Next bits whole levels rounds [] left (λ stack. stack)
  goes_leave_all [] agree = absurd (cc agree.2)
  goes_leave_all (level ∷ outer) (behind, is, bound, ends) = end_all bits whole left outer level.binding behind level.closing rounds level.rest is ends

  pub goes_leave : (span : Span) (more : List Span) (levels : List Level) → AreLevels bits whole levels rounds (span ∷ more) (leave ∷ left)
      → Next bits whole levels rounds more left (close_innermost span)
  goes_leave span more [] agree = absurd (cc agree.2)
  goes_leave span more (level ∷ outer) (behind, is, bound, ends) =
      end_subtree bits whole left outer level.binding behind level.closing rounds span more level.rest is ends

  module _ (closes : List Span) (at : ℕ) where
    -- A repetition has no round.
    pub goes_none : (levels : List Level) → AreLevels bits whole levels rounds closes (begin at ∷ left) → asked at (bound_here whole rounds) left ≡ Ok 0
        → Next bits whole levels rounds closes (behind_close 0 left) (λ stack. stack)
    goes_none [] agree known = absurd (cc agree.2)
    goes_none (level ∷ outer) (behind, is, bound, ends) known =
        let it = repeats level.rest level.closing behind at left is in
        subst (λ t. Next bits whole (level_of t level.binding level.closing ∷ outer) rounds closes (behind_close 0 left) (λ stack. stack)) (sym it.is)
        (begin_none bits whole left outer rounds closes level.binding level.closing behind bound ends at it.inner it.separator it.kind it.others it.held known)

    -- It has some.
    pub goes_begin : (n body : ℕ) (levels : List Level) → AreLevels bits whole levels rounds closes (begin at ∷ left) → asked at (bound_here whole rounds) left ≡ Ok (suc n)
        → drop body bits ≡ left
        → Next bits whole levels (record { body = body; done = 0; last = n } ∷ rounds) closes left (λ stack. stack)
    goes_begin n body [] agree known here = absurd (cc agree.2)
    goes_begin n body (level ∷ outer) (behind, is, bound, ends) known here =
        let it = repeats level.rest level.closing behind at left is in
        subst (λ t. Next bits whole (level_of t level.binding level.closing ∷ outer) (record { body = body; done = 0; last = n } ∷ rounds) closes left (λ stack. stack)) (sym it.is)
        (begin_some bits whole left outer rounds closes level.binding level.closing behind bound ends at it.inner it.separator it.kind it.others it.held n body known here)

    -- Or its fault is the fault of the whole.
    pub goes_nowhere : (fault : TranscribeFault) (stack : Stack) (levels : List Level) → AreLevels bits whole levels rounds closes (begin at ∷ left)
        → asked at (bound_here whole rounds) left ≡ Err fault
        → ((finished levels (sound stack)).fault ≡ Some fault) × (tokens_held (finished levels (sound stack)).stack ≡ tokens_held stack)
    goes_nowhere fault stack [] agree known = absurd (cc agree.2)
    goes_nowhere fault stack (level ∷ outer) (behind, is, bound, ends) known =
        let it = repeats level.rest level.closing behind at left is in
        subst
        (λ t. ((finished (level_of t level.binding level.closing ∷ outer) (sound stack)).fault ≡ Some fault)
        × (tokens_held (finished (level_of t level.binding level.closing ∷ outer) (sound stack)).stack ≡ tokens_held stack)) (sym it.is)
        (begin_fault bits whole left outer rounds closes level.binding level.closing behind bound ends at it.inner it.separator it.kind it.others it.held fault stack known)

-- A round ends: the last one, or another.
module _ (bits : List Bit) (whole : Binding) (left : List Bit) (closes : List Span) (separator : List Leaf) (kind : RepeatKind) (it : Round) (more : List Round) where
  pub goes_last : (levels : List Level) → AreLevels bits whole levels (it ∷ more) closes (close separator kind ∷ left) → it.last ≤ it.done
      → Next bits whole levels more closes left (λ stack. stack)
  goes_last [] agree past = absurd (cc agree.2)
  goes_last (level ∷ outer) (behind, is, bound, ends) past =
      close_last bits whole left outer level.binding behind closes separator kind it more level.closing level.rest is ends past

  pub goes_again : (levels : List Level) → AreLevels bits whole levels (it ∷ more) closes (close separator kind ∷ left) → it.done < it.last
      → Next bits whole levels (record { body = it.body; done = suc it.done; last = it.last } ∷ more) closes (drop it.body bits) (append (leaves separator))
  goes_again [] agree within = absurd (cc agree.2)
  goes_again (level ∷ outer) (behind, is, bound, ends) within =
      close_again bits whole left outer level.binding behind closes separator kind it more level.closing level.rest is ends within

-- No repetition ends if no round is under way.
pub round_there : (bits : List Bit) (whole : Binding) (left : List Bit) (closes : List Span) (separator : List Leaf) (kind : RepeatKind) (levels : List Level)
    → AreLevels bits whole levels [] closes (close separator kind ∷ left) → ⊥
round_there bits whole left closes separator kind [] agree = cc agree.2
round_there bits whole left closes separator kind (level ∷ outer) (behind, is, bound, ends) = by level.rest level.closing is ends
  where
    by : (rest : Template) (closing : Closing) → close separator kind ∷ left ≡ bits_of rest (end_of closing ∷ behind)
        → IsEnd bits whole (λ more others. AreLevels bits whole outer more others behind) closing [] closes behind → ⊥
    by nothing last is ends = cc is
    by nothing (shut span) is ends = cc is
    by nothing (again body other_separator other_kind n others) is (it, more, some, round, agree) = cc some
    by (use_of there which less others) closing is ends = cc is
    by (token it others) closing is ends = cc is
    by (subtree delimiter inner others) closing is ends = cc is
    by (repetition there inner other_separator other_kind others) closing is ends = cc is
