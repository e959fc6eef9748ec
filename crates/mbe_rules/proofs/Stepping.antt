-- Where each part of a template leads, and which errors it gives.
use Rattle.std.proofs.Common.{◌≡◌, ◌+◌, ◌<◌, ◌≤◌, ℕ, suc, Bool, List, [], ◌∷◌, ◌++◌, drop, reverse, None, Some, Ok, Err, inl, inr, refl, ap, ap₂, sym, subst, ◌∙◌, arith}
use Rattle.std.proofs.lemmas.List.{reverse-append}
use Rattle.std.specs.Prelude.{slice_get}
use Rattle.tt.specs.Building.{Stack, above, append, close_innermost, tokens_held}
use Rattle.tt.specs.Forest.{end, leaf, size}
use Rattle.tt.specs.Siblings.{leaves}
use Rattle.tt.specs.Stored.{most_tokens}
use Rattle.tt.specs.Types.Delimiter.{Delimiter}
use Rattle.tt.specs.Types.Leaf.{Leaf}
use Rattle.tt.specs.Types.Span.{Span}
use Rattle.mbe_pattern.specs.declared.pattern.RepeatKind.{RepeatKind}
use Rattle.mbe_matcher.specs.Bindings.{Binding}
use Rattle.mbe_rules.specs.declared.transcribe_error.TranscribeError.{TranscribeError}
use Rattle.mbe_rules.specs.declared.transcribe.Transcriber.{Transcriber}
use Rattle.mbe_rules.specs.declared.taken.Round.{Round}
use Rattle.mbe_rules.specs.Counting.{behind_close}
use Rattle.mbe_rules.specs.Transcribing.{Transcribed, TranscribeFault, still_repeats, nothing_repeats, lengths_differ, no_round, use_transcribed}
use Rattle.mbe_rules.specs.Parts.{Bit, uses, same, enter, leave, begin, close}
use Rattle.mbe_rules.specs.Limits.{IsWithin}
use Rattle.mbe_rules.specs.Results.{error_of}
use Rattle.mbe_rules.specs.Filling.{most_of, AreLevels, IsAt, Goes, Grows, IsWant, IsUsed, IsUseError, Enters, AreClosed, Leaves, IsStop, bound_here}
use Rattle.mbe_rules.specs.Writing.{Level, written_by, finished}
use Rattle.mbe_rules.proofs.Going.{Next, goes_use, use_goes_nowhere, goes_token, goes_enter}
use Rattle.mbe_rules.proofs.Limits.{over_more, in_all, held_within}
use Rattle.mbe_rules.proofs.Repeating.{asked, goes_leave_all, goes_leave, goes_none, goes_begin, goes_nowhere, goes_last, goes_again}
use Rattle.tt_base.proofs.Appending.{held-append, held-close}
use Rattle.mbe_rules.proofs.Writes.{sound, held_less}

module _ (bits : List Bit) (whole : Binding) (levels : List Level) (left : List Bit) where
  -- The filling goes on like this.
  goes_on : (old new : Transcriber) (rounds : List Round) (closes : List Span) (change : Stack → Stack) → Next bits whole levels rounds closes left change
      → reverse new.rounds.items ≡ rounds → reverse new.closes.items ≡ closes → new.builder.stack ≡ change old.builder.stack
      → tokens_held new.builder.stack ≤ most_tokens → new.builder.top ≡ old.builder.top → most_of new ≡ most_of old → Goes bits whole levels old new left
  goes_on old new rounds closes change next r c s few top most =
      record {
        news = next.news;
        is_at =
            record {
              agree = subst (λ l. AreLevels bits whole next.news l (reverse new.closes.items) left) (sym r) (subst (λ l. AreLevels bits whole next.news rounds l left) (sym c) next.agree);
              few = few;
            };
        same = ap (λ k. finished next.news (sound k)) s ∙ sym (next.same old.builder.stack);
        less = next.less;
        top = top;
        most = most;
      }

  -- Or that many more tokens give an error.
  want_stops : (old : Transcriber) (rounds : List Round) (closes : List Span) (behind : List Bit) (change : Stack → Stack) (more : ℕ) (fault : TranscribeError)
      → Next bits whole levels rounds closes behind change → tokens_held (change old.builder.stack) ≡ tokens_held old.builder.stack + more → IsWant more old fault
      → IsStop (most_of old) (finished levels (written_by old)) fault
  want_stops old rounds closes behind change more fault next held want = by want
    where
      -- the final result has no fewer tokens
      all : tokens_held old.builder.stack + more ≤ tokens_held (finished levels (written_by old)).stack
      all = omega (arith, held, held_less next.news (sound (change old.builder.stack)), ap (λ w. tokens_held w.stack) (next.same old.builder.stack))

      by : IsWant more old fault → IsStop (most_of old) (finished levels (written_by old)) fault
      by (inl e) = subst (IsStop (most_of old) (finished levels (written_by old))) (sym e) tt
      by (inr (inl (e, many, within))) = subst (IsStop (most_of old) (finished levels (written_by old))) (sym e) (omega (arith, many, all), within)
      by (inr (inr (e, over))) =
          subst (IsStop (most_of old) (finished levels (written_by old))) (sym e)
          (over_more (most_of old) (tokens_held old.builder.stack + more) (tokens_held (finished levels (written_by old)).stack) all over)

  module _ (old : Transcriber) where
    -- the rounds under way, and the open subtrees
    abbrev pub rounds : List Round
    rounds = reverse old.rounds.items

    abbrev pub closes : List Span
    closes = reverse old.closes.items

    -- A fault, before which nothing more is written, is the error.
    fault_stops : (fault : TranscribeFault) → tokens_held old.builder.stack ≤ most_tokens → (finished levels (written_by old)).fault ≡ Some fault
        → tokens_held (finished levels (written_by old)).stack ≡ tokens_held old.builder.stack → IsStop (most_of old) (finished levels (written_by old)) (error_of fault)
    fault_stops fault few first held = by fault first
      where
        no_more : tokens_held (finished levels (written_by old)).stack ≤ most_tokens
        no_more = omega (arith, held, few)

        within : IsWithin (most_of old) (tokens_held (finished levels (written_by old)).stack)
        within = subst (IsWithin (most_of old)) (sym held) (held_within (tokens_held old.builder.stack) old.left)

        by : (fault : TranscribeFault) → (finished levels (written_by old)).fault ≡ Some fault → IsStop (most_of old) (finished levels (written_by old)) (error_of fault)
        by (still_repeats at) first = (first, no_more, within)
        by (nothing_repeats at) first = (first, no_more, within)
        by (lengths_differ at) first = (first, no_more, within)
        by (no_round at) first = (first, no_more, within)

    -- A use.
    module _ (at variable : ℕ) (less_follows : Bool) (is : IsAt bits whole levels old (uses at variable less_follows ∷ left)) where
      -- what it becomes
      abbrev made : Transcribed
      made = use_transcribed at less_follows (slice_get (bound_here whole rounds) variable)

      -- If it has no fault, it becomes trees.
      use_next : made.fault ≡ None → Next bits whole levels rounds closes left (append made.trees)
      use_next none = goes_use bits whole rounds closes left at variable less_follows made.trees levels is.agree (ap (λ f. record { trees = made.trees; fault = f }) none)

      pub use_steps : (new : Transcriber) → IsUsed made old new → Goes bits whole levels old new left
      use_steps new (none, grows) =
          goes_on old new rounds closes (append made.trees) (use_next none)
          (ap (λ r. reverse r.items) grows.rounds) (ap (λ r. reverse r.items) grows.closes) grows.stack (grows.few is.few) grows.top grows.most

      pub use_stops : (why : TranscribeError) → IsUseError made old why → IsStop (most_of old) (finished levels (written_by old)) why
      use_stops why (inl (fault, wrong, error)) =
          let (first, held) = use_goes_nowhere bits whole rounds closes left at variable less_follows fault old.builder.stack levels is.agree wrong in
          subst (IsStop (most_of old) (finished levels (written_by old))) (sym error) (fault_stops fault is.few first held)
      use_stops why (inr (none, want)) =
          want_stops old rounds closes left (append made.trees) (size made.trees) why (use_next none) (held-append made.trees old.builder.stack) want

    -- A token.
    pub token_steps : (new : Transcriber) (it : Leaf) → IsAt bits whole levels old (same it ∷ left) → Grows (leaf it end) old new → Goes bits whole levels old new left
    token_steps new it is grows =
        goes_on old new rounds closes (append (leaf it end)) (goes_token bits whole rounds closes left it levels is.agree)
        (ap (λ r. reverse r.items) grows.rounds) (ap (λ r. reverse r.items) grows.closes) grows.stack (grows.few is.few) grows.top grows.most

    pub token_stops : (it : Leaf) (fault : TranscribeError) → IsAt bits whole levels old (same it ∷ left) → IsWant 1 old fault
        → IsStop (most_of old) (finished levels (written_by old)) fault
    token_stops it fault is want =
        want_stops old rounds closes left (append (leaf it end)) 1 fault (goes_token bits whole rounds closes left it levels is.agree) (held-append (leaf it end) old.builder.stack) want

    -- A subtree begins.
    pub enter_steps : (new : Transcriber) (delimiter : Delimiter) → IsAt bits whole levels old (enter delimiter ∷ left) → Enters delimiter old new
        → Goes bits whole levels old new left
    enter_steps new delimiter is enters =
        goes_on old new rounds (delimiter.close ∷ closes) (λ stack. above stack delimiter.kind delimiter.open_span end)
        (goes_enter bits whole rounds closes left delimiter levels is.agree)
        (ap (λ r. reverse r.items) enters.rounds) (ap reverse enters.closes ∙ reverse-append old.closes.items (delimiter.close ∷ []))
        (ap (λ b. b.stack) enters.builder) (omega (arith, ap (λ b. tokens_held b.stack) enters.builder, enters.room)) (ap (λ b. b.top) enters.builder) enters.most

    pub enter_stops : (delimiter : Delimiter) (fault : TranscribeError) → IsAt bits whole levels old (enter delimiter ∷ left) → IsWant 1 old fault
        → IsStop (most_of old) (finished levels (written_by old)) fault
    enter_stops delimiter fault is want =
        want_stops old rounds (delimiter.close ∷ closes) left (λ stack. above stack delimiter.kind delimiter.open_span end) 1 fault
        (goes_enter bits whole rounds closes left delimiter levels is.agree) (omega arith) want

    -- A subtree ends, or the template does.
    pub leave_steps : (new : Transcriber) → IsAt bits whole levels old (leave ∷ left) → Leaves old new → Goes bits whole levels old new left
    leave_steps new is leaves = by closes refl leaves
      where
        by : (spans : List Span) → closes ≡ spans → AreClosed spans old new → Goes bits whole levels old new left
        by [] none (builder, same_left, same_rounds, no_closes) =
            goes_on old new rounds [] (λ stack. stack) (goes_leave_all bits whole rounds left levels (subst (λ l. AreLevels bits whole levels rounds l (leave ∷ left)) none is.agree))
            (ap (λ r. reverse r.items) same_rounds) (ap reverse no_closes) (ap (λ b. b.stack) builder)
            (omega (arith, ap (λ b. tokens_held b.stack) builder, is.few)) (ap (λ b. b.top) builder) (ap₂ in_all (ap (λ b. tokens_held b.stack) builder) same_left)
        by (span ∷ more) some (stack, top, same_left, same_rounds, same_closes) =
            goes_on old new rounds more (close_innermost span)
            (goes_leave bits whole rounds left span more levels (subst (λ l. AreLevels bits whole levels rounds l (leave ∷ left)) some is.agree))
            (ap (λ r. reverse r.items) same_rounds) same_closes stack
            (omega (arith, ap tokens_held stack, held-close span old.builder.stack, is.few)) top
            (ap₂ in_all (ap tokens_held stack ∙ held-close span old.builder.stack) same_left)

    -- A repetition begins, and has no round.
    pub none_steps : (new : Transcriber) (at : ℕ) → IsAt bits whole levels old (begin at ∷ left) → asked at (bound_here whole rounds) left ≡ Ok 0 → new ≡ old
        → Goes bits whole levels old new (behind_close 0 left)
    none_steps new at is answer unchanged =
        let next = goes_none bits whole rounds left closes at levels is.agree answer in
        record {
          news = next.news;
          is_at = subst (λ f. IsAt bits whole next.news f (behind_close 0 left)) (sym unchanged) (record { agree = next.agree; few = is.few });
          same = ap (λ f. finished next.news (written_by f)) unchanged ∙ sym (next.same old.builder.stack);
          less = next.less;
          top = ap (λ f. f.builder.top) unchanged;
          most = ap most_of unchanged;
        }

    -- It has some rounds.
    pub begin_steps : (new : Transcriber) (at n body : ℕ) → IsAt bits whole levels old (begin at ∷ left) → asked at (bound_here whole rounds) left ≡ Ok (suc n)
        → drop body bits ≡ left → new.builder ≡ old.builder → new.left ≡ old.left → new.closes ≡ old.closes
        → new.rounds.items ≡ old.rounds.items ++ record { body = body; done = 0; last = n } ∷ []
        → Goes bits whole levels old new left
    begin_steps new at n body is answer here builder same_left same_closes same_rounds =
        let it : Round = record { body = body; done = 0; last = n } in
        goes_on old new (it ∷ rounds) closes (λ stack. stack) (goes_begin bits whole rounds left closes at n body levels is.agree answer here)
        (ap reverse same_rounds ∙ reverse-append old.rounds.items (it ∷ [])) (ap (λ r. reverse r.items) same_closes) (ap (λ b. b.stack) builder)
        (omega (arith, ap (λ b. tokens_held b.stack) builder, is.few)) (ap (λ b. b.top) builder) (ap₂ in_all (ap (λ b. tokens_held b.stack) builder) same_left)

    -- The number of rounds is a fault.
    pub begin_stops : (at : ℕ) (fault : TranscribeFault) → IsAt bits whole levels old (begin at ∷ left) → asked at (bound_here whole rounds) left ≡ Err fault
        → IsStop (most_of old) (finished levels (written_by old)) (error_of fault)
    begin_stops at fault is answer =
        let (first, held) = goes_nowhere bits whole rounds left closes at fault old.builder.stack levels is.agree answer in
        fault_stops fault is.few first held

-- A round ends.
module _ (bits : List Bit) (whole : Binding) (levels : List Level) (left : List Bit) (old : Transcriber) (separator : List Leaf) (kind : RepeatKind)
    (before : List Round) (it : Round) (was : old.rounds.items ≡ before ++ it ∷ [])
    (is : IsAt bits whole levels old (close separator kind ∷ left)) where
  -- the levels, with that round
  agree : AreLevels bits whole levels (it ∷ reverse before) (reverse old.closes.items) (close separator kind ∷ left)
  agree = subst (λ l. AreLevels bits whole levels l (reverse old.closes.items) (close separator kind ∷ left)) (ap reverse was ∙ reverse-append before (it ∷ [])) is.agree

  -- It is the last round.
  pub last_steps : (new : Transcriber) → it.last ≤ it.done → new.builder ≡ old.builder → new.left ≡ old.left → new.closes ≡ old.closes → new.rounds.items ≡ before
      → Goes bits whole levels old new left
  last_steps new past builder same_left same_closes same_rounds =
      goes_on bits whole levels left old new (reverse before) (reverse old.closes.items) (λ stack. stack)
      (goes_last bits whole left (reverse old.closes.items) separator kind it (reverse before) levels agree past)
      (ap reverse same_rounds) (ap (λ r. reverse r.items) same_closes) (ap (λ b. b.stack) builder)
      (omega (arith, ap (λ b. tokens_held b.stack) builder, is.few)) (ap (λ b. b.top) builder) (ap₂ in_all (ap (λ b. tokens_held b.stack) builder) same_left)

  -- There is another round.
  pub again_steps : (new : Transcriber) → it.done < it.last → new.builder.stack ≡ append (leaves separator) old.builder.stack → new.builder.top ≡ old.builder.top
      → (tokens_held old.builder.stack ≤ most_tokens → tokens_held new.builder.stack ≤ most_tokens) → most_of new ≡ most_of old → new.closes ≡ old.closes
      → new.rounds.items ≡ before ++ record { body = it.body; done = suc it.done; last = it.last } ∷ []
      → Goes bits whole levels old new (drop it.body bits)
  again_steps new within stack top few most same_closes same_rounds =
      let next : Round = record { body = it.body; done = suc it.done; last = it.last } in
      goes_on bits whole levels (drop it.body bits) old new (next ∷ reverse before) (reverse old.closes.items) (append (leaves separator))
      (goes_again bits whole left (reverse old.closes.items) separator kind it (reverse before) levels agree within)
      (ap reverse same_rounds ∙ reverse-append before (next ∷ [])) (ap (λ r. reverse r.items) same_closes) stack (few is.few) top most

  -- The separator gives an error.
  pub again_stops : (fault : TranscribeError) → it.done < it.last → IsWant (size (leaves separator)) old fault → IsStop (most_of old) (finished levels (written_by old)) fault
  again_stops fault within want =
      want_stops bits whole levels left old (record { body = it.body; done = suc it.done; last = it.last } ∷ reverse before) (reverse old.closes.items) (drop it.body bits)
      (append (leaves separator)) (size (leaves separator)) fault (goes_again bits whole left (reverse old.closes.items) separator kind it (reverse before) levels agree within)
      (held-append (leaves separator) old.builder.stack) want
