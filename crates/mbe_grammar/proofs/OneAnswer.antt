-- An expression has at most one answer.
use Rattle.std.proofs.Common.{◌≡◌, inl, inr, ◌≤◌, ℕ, suc, zero, Bool, List, length, Some, None, sym, subst, ap, ◌∙◌, arith}
use Rattle.std.specs.Prelude.{slice_get, Option, option_map}
use Rattle.mbe_grammar.specs.declared.rule.Rule.{Rule}
use Rattle.mbe_grammar.specs.declared.rule.Rule.TheVariants as rule
use Rattle.mbe_grammar.specs.Parses.{Answering, Holds, ParsesIn}
use Rattle.mbe_grammar.specs.Positions.{Position, opened, closed}

module _ (noting : Bool) where
  -- An answer from the answers of the parts holds for any answers that include those.
  pub held : (P Q : Answering) → ((at : ℕ) (from : Position) (answer : Option Position) → P at from answer → Q at from answer)
      → (at : ℕ) (it : Option Rule) (from : Position) (answer : Option Position) → Holds noting P at it from answer → Holds noting Q at it from answer
  held P Q f at None from answer h = h
  held P Q f at (Some rule.Empty) from answer h = h
  held P Q f at (Some (rule.Unit wanted)) from answer h = h
  held P Q f at (Some (rule.Name other)) from answer h = (h.0, f _ _ _ h.1, h.2)
  held P Q f at (Some (rule.Sequence first second)) from answer (inl h) = inl (f _ _ _ h.0, h.1)
  held P Q f at (Some (rule.Sequence first second)) from answer (inr h) = inr (h.0, f _ _ _ h.1, f _ _ _ h.2)
  held P Q f at (Some (rule.Choice first other)) from answer (inl h) = inl (f _ _ _ h.0, f _ _ _ h.1)
  held P Q f at (Some (rule.Choice first other)) from answer (inr h) = inr (h.0, f _ _ _ h.1, h.2)
  held P Q f at (Some (rule.ZeroOrMore part)) from answer (inl h) = inl (f _ _ _ h.0, h.1)
  held P Q f at (Some (rule.ZeroOrMore part)) from answer (inr h) = inr (h.0, f _ _ _ h.1, f _ _ _ h.2)
  held P Q f at (Some (rule.Not part)) from answer (inl h) = inl (f _ _ _ h.0, h.1)
  held P Q f at (Some (rule.Not part)) from answer (inr h) = inr (h.0, f _ _ _ h.1, h.2)

  -- There is one answer if each part has one.
  pub held_once : (P Q : Answering)
      → ((at : ℕ) (from : Position) (answer other : Option Position) → P at from answer → Q at from other → answer ≡ other)
      → (at : ℕ) (it : Option Rule) (from : Position) (answer other : Option Position) → Holds noting P at it from answer → Holds noting Q at it from other → answer ≡ other
  held_once P Q f at None from answer other h k = h ∙ sym k
  held_once P Q f at (Some rule.Empty) from answer other h k = h ∙ sym k
  held_once P Q f at (Some (rule.Unit wanted)) from answer other h k = h ∙ sym k
  held_once P Q f at (Some (rule.Name there)) from answer other h k =
      h.2 ∙ ap (option_map (closed noting (length from.log))) (f there (opened noting at from) h.0 k.0 h.1 k.1) ∙ sym k.2
  held_once P Q f at (Some (rule.Sequence first second)) from answer other (inl h) (inl k) = h.1 ∙ sym k.1
  held_once P Q f at (Some (rule.Sequence first second)) from answer other (inl h) (inr k) = absurd (cc (f first from None (Some k.0) h.0 k.1))
  held_once P Q f at (Some (rule.Sequence first second)) from answer other (inr h) (inl k) = absurd (cc (f first from (Some h.0) None h.1 k.0))
  held_once P Q f at (Some (rule.Sequence first second)) from answer other (inr h) (inr k) =
      let same : k.0 ≡ h.0 = cc (f first from (Some h.0) (Some k.0) h.1 k.1) in
      f second h.0 answer other h.2 (subst (λ m. Q second m other) same k.2)
  held_once P Q f at (Some (rule.Choice first second)) from answer other (inl h) (inl k) = f second from answer other h.1 k.1
  held_once P Q f at (Some (rule.Choice first second)) from answer other (inl h) (inr k) = absurd (cc (f first from None (Some k.0) h.0 k.1))
  held_once P Q f at (Some (rule.Choice first second)) from answer other (inr h) (inl k) = absurd (cc (f first from (Some h.0) None h.1 k.0))
  held_once P Q f at (Some (rule.Choice first second)) from answer other (inr h) (inr k) = h.2 ∙ f first from (Some h.0) (Some k.0) h.1 k.1 ∙ sym k.2
  held_once P Q f at (Some (rule.ZeroOrMore part)) from answer other (inl h) (inl k) = h.1 ∙ sym k.1
  held_once P Q f at (Some (rule.ZeroOrMore part)) from answer other (inl h) (inr k) = absurd (cc (f part from None (Some k.0) h.0 k.1))
  held_once P Q f at (Some (rule.ZeroOrMore part)) from answer other (inr h) (inl k) = absurd (cc (f part from (Some h.0) None h.1 k.0))
  held_once P Q f at (Some (rule.ZeroOrMore part)) from answer other (inr h) (inr k) =
      let same : k.0 ≡ h.0 = cc (f part from (Some h.0) (Some k.0) h.1 k.1) in
      f at h.0 answer other h.2 (subst (λ m. Q at m other) same k.2)
  held_once P Q f at (Some (rule.Not part)) from answer other (inl h) (inl k) = h.1 ∙ sym k.1
  held_once P Q f at (Some (rule.Not part)) from answer other (inl h) (inr k) = absurd (cc (f part from None (Some k.0) h.0 k.1))
  held_once P Q f at (Some (rule.Not part)) from answer other (inr h) (inl k) = absurd (cc (f part from (Some h.0) None h.1 k.0))
  held_once P Q f at (Some (rule.Not part)) from answer other (inr h) (inr k) = h.2 ∙ sym k.2

  module _ (rules : List Rule) where
    -- The bound on a derivation's depth may be raised.
    pub deeper : (n m : ℕ) → n ≤ m → (at : ℕ) (from : Position) (answer : Option Position) → ParsesIn noting rules n at from answer → ParsesIn noting rules m at from answer
    deeper zero m le at from answer h = absurd h
    deeper (suc n) zero le at from answer h = absurd (omega (arith, le))
    deeper (suc n) (suc m) le at from answer h =
        held (ParsesIn noting rules n) (ParsesIn noting rules m) (deeper n m (omega (arith, le))) at (slice_get rules at) from answer h

    pub one_answer_in : (n m at : ℕ) (from : Position) (answer other : Option Position) → ParsesIn noting rules n at from answer → ParsesIn noting rules m at from other → answer ≡ other
    one_answer_in zero m at from answer other h k = absurd h
    one_answer_in (suc n) zero at from answer other h k = absurd k
    one_answer_in (suc n) (suc m) at from answer other h k =
        held_once (ParsesIn noting rules n) (ParsesIn noting rules m) (one_answer_in n m) at (slice_get rules at) from answer other h k
