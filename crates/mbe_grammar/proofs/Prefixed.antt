-- What an expression takes does not depend on what was in the log before.
use Rattle.std.proofs.Common.{◌≡◌, inl, inr, ◌+◌, ℕ, suc, zero, Bool, true, false, List, [], ◌∷◌, ◌++◌, drop, length, map, take, Some, None, refl, sym, subst, ap, ◌∙◌, append_assoc, cond, arith}
use Rattle.std.proofs.lemmas.Bool.Decides.{nat_tests}
use Rattle.std.proofs.lemmas.List.{append-nil, append_cancel_left, length-append, map-append, take-append-drop}
use Rattle.std.proofs.Math.Seq.{take-append-add}
use Rattle.std.specs.Prelude.{◌==◌, slice_get, Option, option_map}
use Rattle.tt.specs.Forest.{Forest}
use Rattle.tt.specs.Gluing.{after_trees}
use Rattle.mbe_grammar.specs.declared.entry.Entry.{Entry as Noted}
use Rattle.mbe_grammar.specs.declared.rule.Rule.{Rule}
use Rattle.mbe_grammar.specs.declared.rule.Rule.TheVariants as rule
use Rattle.mbe_grammar.specs.declared.test.Test.{Test}
use Rattle.mbe_grammar.specs.Parses.{Answering, Holds, ParsesIn, Parses}
use Rattle.mbe_grammar.specs.Places.{entry, position_of}
use Rattle.mbe_grammar.specs.Positions.{Entry, Position, leaves, noted, taken, takes, opened, cut, closed, entry_of, count_of, enters, first_position}
use Rattle.mbe_grammar.specs.Running.{Extends}
use Rattle.mbe_grammar.specs.Tests.{named, passes}
use Rattle.mbe_grammar.specs.Units.{first_unit}

-- the same place with these entries before those of its log
abbrev pub prefixed : List Entry → Position → Position
prefixed front to = record { passed = to.passed; rest = to.rest; log = front ++ to.log }

module _ (front : List Entry) where
  abbrev logged : Position → List Entry → Position
  logged to log = record { passed = to.passed; rest = to.rest; log = log }

  with_log : (to : Position) (log other : List Entry) → log ≡ other → logged to log ≡ logged to other
  with_log to log other e = ap (logged to) e

  opened_prefixed : (name : ℕ) (from : Position) → opened true name (prefixed front from) ≡ prefixed front (opened true name from)
  opened_prefixed name from = with_log from ((front ++ from.log) ++ enters name ∷ []) (front ++ (from.log ++ enters name ∷ [])) (append_assoc front from.log (enters name ∷ []))

  taken_by : (wanted : Test) (from : Position) (b : Bool)
      → cond b (Some (taken true wanted (prefixed front from))) None ≡ option_map (prefixed front) (cond b (Some (taken true wanted from)) None)
  taken_by wanted from true =
      let more = entry_of (named wanted) (count_of wanted from.rest) from.rest ∷ [] in
      ap Some (with_log (taken true wanted from) ((front ++ from.log) ++ more) (front ++ (from.log ++ more)) (append_assoc front from.log more))
  taken_by wanted from false = refl

  takes_prefixed : (wanted : Test) (from : Position) → takes true wanted (prefixed front from) ≡ option_map (prefixed front) (takes true wanted from)
  takes_prefixed wanted from = taken_by wanted from (passes wanted (first_unit from.rest))

  one_more : (n a b : ℕ) → (n + a == suc (n + b)) ≡ (a == suc b)
  one_more n a b = grind (arith, nat_tests)

  closed_by : (b : Bool) (since : ℕ) (to : Position)
      → cond b (cut (length front + since) (prefixed front to)) (noted true (leaves ∷ []) (prefixed front to)) ≡ prefixed front (cond b (cut since to) (noted true (leaves ∷ []) to))
  closed_by true since to = with_log to (take (length front + since) (front ++ to.log)) (front ++ take since to.log) (take-append-add front to.log since)
  closed_by false since to = with_log to ((front ++ to.log) ++ leaves ∷ []) (front ++ (to.log ++ leaves ∷ [])) (append_assoc front to.log (leaves ∷ []))

  closed_prefixed : (since : ℕ) (to : Position) → closed true (length front + since) (prefixed front to) ≡ prefixed front (closed true since to)
  closed_prefixed since to =
      ap (λ n. cond (n == suc (length front + since)) (cut (length front + since) (prefixed front to)) (noted true (leaves ∷ []) (prefixed front to))) (length-append front to.log)
      ∙ ap (λ b. cond b (cut (length front + since) (prefixed front to)) (noted true (leaves ∷ []) (prefixed front to))) (one_more (length front) (length to.log) since)
      ∙ closed_by (length to.log == suc since) since to

  name_prefixed : (log : List Entry) (found : Option Position)
      → option_map (closed true (length (front ++ log))) (option_map (prefixed front) found) ≡ option_map (prefixed front) (option_map (closed true (length log)) found)
  name_prefixed log None = refl
  name_prefixed log (Some to) = ap Some (ap (λ n. closed true n (prefixed front to)) (length-append front log) ∙ closed_prefixed (length log) to)

  -- each answer of the first from a place with these entries before is one of the second with them
  abbrev Answer : (Q : Answering) → (at : ℕ) (from : Position) (answer : Option Position) → Type 0
  Answer Q at from answer = (found : Option Position) × Q at from found × (answer ≡ option_map (prefixed front) found)

  abbrev AreSame : (P Q : Answering) → Type 0
  AreSame P Q = (at : ℕ) (from : Position) (answer : Option Position) → P at (prefixed front from) answer → Answer Q at from answer

  abbrev Held : (Q : Answering) → (at : ℕ) → Option Rule → (from : Position) (answer : Option Position) → Type 0
  Held Q at it from answer = (found : Option Position) × Holds true Q at it from found × (answer ≡ option_map (prefixed front) found)

  -- A part that failed fails; one that took trees takes the same.
  failed : (Q : Answering) (at : ℕ) (from : Position) → Answer Q at from None → Q at from None
  failed Q at from (None, q, e) = q
  failed Q at from (Some to, q, e) = absurd (cc e)

  took : (Q : Answering) (at : ℕ) (from middle : Position) → Answer Q at from (Some middle) → (to : Position) × Q at from (Some to) × (middle ≡ prefixed front to)
  took Q at from middle (None, q, e) = absurd (cc e)
  took Q at from middle (Some to, q, e) = (to, q, cc e)

  prefixed_by : (P Q : Answering) → AreSame P Q → (at : ℕ) (it : Option Rule) (from : Position) (answer : Option Position) → Holds true P at it (prefixed front from) answer
      → Held Q at it from answer
  prefixed_by P Q f at None from answer h = (None, refl, h)
  prefixed_by P Q f at (Some rule.Empty) from answer h = (Some from, refl, h)
  prefixed_by P Q f at (Some (rule.Unit wanted)) from answer h = (takes true wanted from, refl, h ∙ takes_prefixed wanted from)
  prefixed_by P Q f at (Some (rule.Name other)) from answer h =
      let one = f other (opened true at from) h.0 (subst (λ p. P other p h.0) (opened_prefixed at from) h.1) in (
        option_map (closed true (length from.log)) one.0,
        (one.0, one.1, refl),
        h.2 ∙ ap (option_map (closed true (length (front ++ from.log)))) one.2 ∙ name_prefixed from.log one.0,
      )
  prefixed_by P Q f at (Some (rule.Sequence first second)) from answer (inl h) = (None, inl (failed Q first from (f first from None h.0), refl), h.1)
  prefixed_by P Q f at (Some (rule.Sequence first second)) from answer (inr h) =
      let one = took Q first from h.0 (f first from (Some h.0) h.1) in
      let two = f second one.0 answer (subst (λ p. P second p answer) one.2 h.2) in
      (two.0, inr (one.0, one.1, two.1), two.2)
  prefixed_by P Q f at (Some (rule.Choice first other)) from answer (inl h) =
      let two = f other from answer h.1 in (two.0, inl (failed Q first from (f first from None h.0), two.1), two.2)
  prefixed_by P Q f at (Some (rule.Choice first other)) from answer (inr h) =
      let one = took Q first from h.0 (f first from (Some h.0) h.1) in (Some one.0, inr (one.0, one.1, refl), h.2 ∙ ap Some one.2)
  prefixed_by P Q f at (Some (rule.ZeroOrMore part)) from answer (inl h) = (Some from, inl (failed Q part from (f part from None h.0), refl), h.1)
  prefixed_by P Q f at (Some (rule.ZeroOrMore part)) from answer (inr h) =
      let one = took Q part from h.0 (f part from (Some h.0) h.1) in
      let two = f at one.0 answer (subst (λ p. P at p answer) one.2 h.2) in
      (two.0, inr (one.0, one.1, two.1), two.2)
  prefixed_by P Q f at (Some (rule.Not part)) from answer (inl h) = (Some from, inl (failed Q part from (f part from None h.0), refl), h.1)
  prefixed_by P Q f at (Some (rule.Not part)) from answer (inr h) =
      let one = took Q part from h.0 (f part from (Some h.0) h.1) in (None, inr (one.0, one.1, refl), h.2)

  prefixed_in : (rules : List Rule) (depth : ℕ) → AreSame (ParsesIn true rules depth) (ParsesIn true rules depth)
  prefixed_in rules zero at from answer h = absurd h
  prefixed_in rules (suc depth) at from answer h = prefixed_by (ParsesIn true rules depth) (ParsesIn true rules depth) (prefixed_in rules depth) at (slice_get rules at) from answer h

  parses_prefixed : (rules : List Rule) → AreSame (Parses true rules) (Parses true rules)
  unfolding Parses
  parses_prefixed rules at from answer h = let it = prefixed_in rules h.0 at from answer h.1 in (it.0, (h.0, it.1), it.2)

-- The expression was read behind an old log.
module _ (rules : List Rule) (name : ℕ) (trees : Forest) (old : List Noted) where
  begins_there : position_of trees old 0 ≡ prefixed (map entry old) (first_position trees)
  begins_there = ap (λ (l : List Entry). logged (map entry old) (first_position trees) l) (sym (append-nil (map entry old)))

  from_start : (answer : Option Position) → Parses true rules name (position_of trees old 0) answer → Answer (map entry old) (Parses true rules) name (first_position trees) answer
  from_start answer p = parses_prefixed (map entry old) rules name (first_position trees) answer (subst (λ f. Parses true rules name f answer) begins_there p)

  -- It fails.
  pub read_none : Parses true rules name (position_of trees old 0) None → Parses true rules name (first_position trees) None
  read_none p = failed (map entry old) (Parses true rules) name (first_position trees) (from_start None p)

  -- What the log has more is what it took.
  pub read_more : (new more : List Noted) (passed : ℕ) → new ≡ old ++ more → Parses true rules name (position_of trees old 0) (Some (position_of trees new passed))
      → (to : Position) × Parses true rules name (first_position trees) (Some to) × (to.rest ≡ after_trees passed trees) × (to.log ≡ map entry more)
  read_more new more passed is p =
      let it = took (map entry old) (Parses true rules) name (first_position trees) (position_of trees new passed) (from_start (Some (position_of trees new passed)) p) in
      let logs : map entry old ++ map entry more ≡ map entry old ++ it.0.log = sym (ap (map entry) is ∙ map-append entry old more) ∙ ap (λ (p : Position). p.log) it.2 in
      (it.0, it.1, sym (ap (λ (p : Position). p.rest) it.2), sym (append_cancel_left (map entry old) (map entry more) it.0.log logs))

-- A log that extends an old one is the old one and more.
pub what_is_more : (old new : List Noted) → Extends old new → new ≡ old ++ drop (length old) new
what_is_more old new e = sym (take-append-drop (length old) new) ∙ ap (λ (l : List Noted). l ++ drop (length old) new) e
