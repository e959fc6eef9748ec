-- What is known of an expression before it is read is what it answers.
use Rattle.std.proofs.Common.{◌≡◌, inl, inr, ◌+◌, ◌<◌, ℕ, suc, zero, Bool, true, false, List, [], ◌∷◌, length, Some, None, refl, sym, subst, ap, ◌∙◌, cond, arith}
use Rattle.std.proofs.lemmas.Bool.{eqb-true}
use Rattle.std.proofs.lemmas.Bool.Decides.{nat_tests}
use Rattle.std.proofs.lemmas.Nat.Bits.{bit_at-zero}
use Rattle.std.proofs.lemmas.Option.{slice_get_past}
use Rattle.std.specs.Int.{bit_at}
use Rattle.std.specs.Int.RustNames.{bit_and, bit_or}
use Rattle.std.specs.Prelude.{◌⊎◌, ◌%◌, ◌==◌, slice_get, Option, option_map, nat_lt}
use Rattle.tt.specs.Forest.{Forest}
use Rattle.mbe_grammar.specs.declared.known.Glance.TheVariants as glance
use Rattle.mbe_grammar.specs.declared.known.Known.{Known}
use Rattle.mbe_grammar.specs.declared.rule.Rule.{Rule}
use Rattle.mbe_grammar.specs.declared.rule.Rule.TheVariants as rule
use Rattle.mbe_grammar.specs.declared.test.Test.{Test}
use Rattle.mbe_grammar.specs.declared.test.Test.TheVariants as test
use Rattle.mbe_grammar.specs.Kinds.{kind_of}
use Rattle.mbe_grammar.specs.Known.{glance_at, glance_in, fails_in, idles_in, fails_of, idles_of, begins, always_passes, is_within, is_right_rule, are_right}
use Rattle.mbe_grammar.specs.Parses.{Answering, Holds, ParsesIn}
use Rattle.mbe_grammar.specs.Positions.{Position, enters, taken, takes, opened, closed}
use Rattle.mbe_grammar.specs.Tests.{passes}
use Rattle.mbe_grammar.specs.Units.{first_unit}
use Rattle.mbe_grammar.proofs.Agreeing.{Agrees, UnitsTaken, units_taken}
use Rattle.mbe_grammar.proofs.AnyUnit.{any_of_kind}
use Rattle.mbe_grammar.proofs.KindsOfTests.{begins_is_of}
use Rattle.mbe_grammar.proofs.Bits.{of_both, of_one, of_outer, of_nothing, of_apart}
use Rattle.mbe_grammar.proofs.KindsOfWordsAndPuncts.{IsOf, segment_of_kind}
use Rattle.mbe_grammar.proofs.Notes.{noted_rest, closed_opened}
use Rattle.mbe_grammar.proofs.Marks.{left_true, right_true}

-- what is known is right if there is an expression; otherwise nothing is known
abbrev RightIn : List Known → List Rule → (at : ℕ) → Option Rule → Type 0
RightIn known rules at None = slice_get known at ≡ None
RightIn known rules at (Some it) = is_right_rule known rules at it ≡ true

past : (known : List Known) (first k : ℕ) → nat_lt (length known) (suc first) ≡ true → slice_get known (first + k) ≡ None
past known first k e =
    let few : length known < suc first = grind (arith, nat_tests) in
    slice_get_past known (first + k) (omega (arith, few))

right_from : (known : List Known) (rules : List Rule) (first k : ℕ) (others : List Rule) → are_right known rules first others ≡ true
    → RightIn known rules (first + k) (slice_get others k)
right_from known rules first k [] e = past known first k e
right_from known rules first zero (it ∷ others) e =
    let same : first ≡ first + 0 = omega arith in
    subst (λ n. RightIn known rules n (Some it)) same (left_true (is_right_rule known rules first it) (are_right known rules (suc first) others) e)
right_from known rules first (suc k) (it ∷ others) e =
    let same : suc first + k ≡ first + suc k = omega arith in
    subst (λ n. RightIn known rules n (slice_get others k)) same
    (right_from known rules (suc first) k others (right_true (is_right_rule known rules first it) (are_right known rules (suc first) others) e))

no_bit : (kind : ℕ) → IsOf 0 kind → ⊥
no_bit kind e = absurd (cc (sym (bit_at-zero (kind % 64)) ∙ e))

-- the tests that all units of these kinds pass
always_is_of : (it : Option Rule) (from : Position) → IsOf (always_passes it) (kind_of (first_unit from.rest))
    → (wanted : Test) × (it ≡ Some (rule.Unit wanted)) × (passes wanted (first_unit from.rest) ≡ true)
always_is_of None from e = absurd (no_bit (kind_of (first_unit from.rest)) e)
always_is_of (Some rule.Empty) from e = absurd (no_bit (kind_of (first_unit from.rest)) e)
always_is_of (Some (rule.Name other)) from e = absurd (no_bit (kind_of (first_unit from.rest)) e)
always_is_of (Some (rule.Sequence first second)) from e = absurd (no_bit (kind_of (first_unit from.rest)) e)
always_is_of (Some (rule.Choice first other)) from e = absurd (no_bit (kind_of (first_unit from.rest)) e)
always_is_of (Some (rule.ZeroOrMore part)) from e = absurd (no_bit (kind_of (first_unit from.rest)) e)
always_is_of (Some (rule.Not part)) from e = absurd (no_bit (kind_of (first_unit from.rest)) e)
always_is_of (Some (rule.Unit test.PathSegment)) from e = (test.PathSegment, refl, segment_of_kind (first_unit from.rest) e)
always_is_of (Some (rule.Unit test.Any)) from e = (test.Any, refl, any_of_kind (first_unit from.rest) e)
always_is_of (Some (rule.Unit (test.Is it))) from e = absurd (no_bit (kind_of (first_unit from.rest)) e)
always_is_of (Some (rule.Unit (test.Front char))) from e = absurd (no_bit (kind_of (first_unit from.rest)) e)
always_is_of (Some (rule.Unit test.Name)) from e = absurd (no_bit (kind_of (first_unit from.rest)) e)
always_is_of (Some (rule.Unit test.TruthValue)) from e = absurd (no_bit (kind_of (first_unit from.rest)) e)
always_is_of (Some (rule.Unit test.Literal)) from e = absurd (no_bit (kind_of (first_unit from.rest)) e)
always_is_of (Some (rule.Unit test.Text)) from e = absurd (no_bit (kind_of (first_unit from.rest)) e)
always_is_of (Some (rule.Unit test.Number)) from e = absurd (no_bit (kind_of (first_unit from.rest)) e)
always_is_of (Some (rule.Unit test.Delimited)) from e = absurd (no_bit (kind_of (first_unit from.rest)) e)
always_is_of (Some (rule.Unit test.Opaque)) from e = absurd (no_bit (kind_of (first_unit from.rest)) e)
always_is_of (Some (rule.Unit (test.Holding kind name))) from e = absurd (no_bit (kind_of (first_unit from.rest)) e)
always_is_of (Some (rule.Unit (test.OpaqueHolding name))) from e = absurd (no_bit (kind_of (first_unit from.rest)) e)
always_is_of (Some (rule.Unit test.BinaryOperator)) from e = absurd (no_bit (kind_of (first_unit from.rest)) e)
always_is_of (Some (rule.Unit test.AssignmentOperator)) from e = absurd (no_bit (kind_of (first_unit from.rest)) e)
always_is_of (Some (rule.Unit test.BeginsExpression)) from e = absurd (no_bit (kind_of (first_unit from.rest)) e)

-- what passes a test is taken, and what does not pass is not
taken_of : (noting : Bool) (wanted : Test) (from : Position) (b : Bool) → passes wanted (first_unit from.rest) ≡ b → takes noting wanted from ≡ cond b (Some (taken noting wanted from)) None
taken_of noting wanted from b e = ap (λ (c : Bool). cond c (Some (taken noting wanted from)) None) e

module _ (noting : Bool) (known : List Known) (rules : List Rule) (right : are_right known rules 0 rules ≡ true) where
  right_at : (at : ℕ) → RightIn known rules at (slice_get rules at)
  right_at at =
      let same : 0 + at ≡ at = omega arith in
      subst (λ n. RightIn known rules n (slice_get rules at)) same (right_from known rules 0 at rules right)

  -- what the bits of the first unit's kind say of an answer
  abbrev FailsHere : (at : ℕ) (from : Position) → Type 0
  FailsHere at from = IsOf (fails_of known at) (kind_of (first_unit from.rest))

  abbrev IdlesHere : (at : ℕ) (from : Position) → Type 0
  IdlesHere at from = IsOf (idles_of known at) (kind_of (first_unit from.rest))

  abbrev Told : (at : ℕ) (from : Position) (answer : Option Position) → Type 0
  Told at from answer = (FailsHere at from → answer ≡ None) × (IdlesHere at from → answer ≡ Some from)

  abbrev TellsOf : Answering → Type 0
  TellsOf P = (at : ℕ) (from : Position) (answer : Option Position) → P at from answer → Told at from answer

  not_known : (at : ℕ) (from : Position) (answer : Option Position) → slice_get known at ≡ None → Told at from answer
  not_known at from answer e = (
    λ f. absurd (no_bit (kind_of (first_unit from.rest)) (subst (λ it. IsOf (fails_in it) (kind_of (first_unit from.rest))) e f)),
    λ f. absurd (no_bit (kind_of (first_unit from.rest)) (subst (λ it. IsOf (idles_in it) (kind_of (first_unit from.rest))) e f)),
  )

  unit_fails : (wanted : Test) (from : Position) (fails : ℕ) → (bit_and fails (begins wanted) == 0) ≡ true → IsOf fails (kind_of (first_unit from.rest)) → takes noting wanted from ≡ None
  unit_fails wanted from fails g f = by (passes wanted (first_unit from.rest)) refl
    where
      by : (b : Bool) → passes wanted (first_unit from.rest) ≡ b → takes noting wanted from ≡ None
      by true e = absurd (of_apart fails (begins wanted) (kind_of (first_unit from.rest) % 64) g f (begins_is_of wanted (first_unit from.rest) e))
      by false e = taken_of noting wanted from false e

  -- the same place after a part that takes nothing
  same_place : (from middle : Position) → Some middle ≡ Some from → from ≡ middle
  same_place from middle e = cc e

  sequence_fails : (P : Answering) → TellsOf P → (first second : ℕ) (from : Position) (answer : Option Position)
      → Holds noting P 0 (Some (rule.Sequence first second)) from answer
      → (FailsHere first from ⊎ (IdlesHere first from × FailsHere second from)) → answer ≡ None
  sequence_fails P f first second from answer (inl h) how = h.1
  sequence_fails P f first second from answer (inr h) (inl k) = absurd (cc ((f first from (Some h.0) h.1).0 k))
  sequence_fails P f first second from answer (inr h) (inr k) =
      let same : from ≡ h.0 = same_place from h.0 ((f first from (Some h.0) h.1).1 k.0) in
      (f second from answer (subst (λ m. P second m answer) (sym same) h.2)).0 k.1

  sequence_idles : (P : Answering) → TellsOf P → (first second : ℕ) (from : Position) (answer : Option Position)
      → Holds noting P 0 (Some (rule.Sequence first second)) from answer → IdlesHere first from → IdlesHere second from → answer ≡ Some from
  sequence_idles P f first second from answer (inl h) one two = absurd (cc ((f first from None h.0).1 one))
  sequence_idles P f first second from answer (inr h) one two =
      let same : from ≡ h.0 = same_place from h.0 ((f first from (Some h.0) h.1).1 one) in
      (f second from answer (subst (λ m. P second m answer) (sym same) h.2)).1 two

  choice_fails : (P : Answering) → TellsOf P → (first other : ℕ) (from : Position) (answer : Option Position)
      → Holds noting P 0 (Some (rule.Choice first other)) from answer → FailsHere first from → FailsHere other from → answer ≡ None
  choice_fails P f first other from answer (inl h) one two = (f other from answer h.1).0 two
  choice_fails P f first other from answer (inr h) one two = absurd (cc ((f first from (Some h.0) h.1).0 one))

  choice_idles : (P : Answering) → TellsOf P → (first other : ℕ) (from : Position) (answer : Option Position)
      → Holds noting P 0 (Some (rule.Choice first other)) from answer
      → (IdlesHere first from ⊎ (FailsHere first from × IdlesHere other from)) → answer ≡ Some from
  choice_idles P f first other from answer (inl h) (inl k) = absurd (cc ((f first from None h.0).1 k))
  choice_idles P f first other from answer (inl h) (inr k) = (f other from answer h.1).1 k.1
  choice_idles P f first other from answer (inr h) (inl k) = h.2 ∙ (f first from (Some h.0) h.1).1 k
  choice_idles P f first other from answer (inr h) (inr k) = absurd (cc ((f first from (Some h.0) h.1).0 k.0))

  many_idles : (P : Answering) → TellsOf P → (at part : ℕ) (from : Position) (answer : Option Position)
      → Holds noting P at (Some (rule.ZeroOrMore part)) from answer → FailsHere part from → answer ≡ Some from
  many_idles P f at part from answer (inl h) k = h.1
  many_idles P f at part from answer (inr h) k = absurd (cc ((f part from (Some h.0) h.1).0 k))

  not_fails : (P : Answering) → TellsOf P → UnitsTaken noting rules P → (part : ℕ) (from : Position) (answer : Option Position)
      → Holds noting P 0 (Some (rule.Not part)) from answer
      → (IdlesHere part from ⊎ IsOf (always_passes (slice_get rules part)) (kind_of (first_unit from.rest))) → answer ≡ None
  not_fails P f u part from answer (inr h) how = h.2
  not_fails P f u part from answer (inl h) (inl k) = absurd (cc ((f part from None h.0).1 k))
  not_fails P f u part from answer (inl h) (inr k) =
      let it = always_is_of (slice_get rules part) from k in
      absurd (cc (u part from None it.0 it.1 h.0 ∙ taken_of noting it.0 from true it.2))

  not_idles : (P : Answering) → TellsOf P → (part : ℕ) (from : Position) (answer : Option Position)
      → Holds noting P 0 (Some (rule.Not part)) from answer → FailsHere part from → answer ≡ Some from
  not_idles P f part from answer (inl h) k = h.1
  not_idles P f part from answer (inr h) k = absurd (cc ((f part from (Some h.0) h.1).0 k))

  told_by : (P : Answering) → TellsOf P → UnitsTaken noting rules P
      → (at : ℕ) (from : Position) (answer : Option Position) (it : Option Rule) → RightIn known rules at it → Holds noting P at it from answer → Told at from answer
  told_by P f u at from answer None g h = not_known at from answer g
  told_by P f u at from answer (Some rule.Empty) g h = (λ k. absurd (of_nothing (fails_of known at) (kind_of (first_unit from.rest) % 64) g k), λ k. h)
  told_by P f u at from answer (Some (rule.Unit wanted)) g h = (
    λ k. h ∙ unit_fails wanted from (fails_of known at) (left_true (bit_and (fails_of known at) (begins wanted) == 0) (idles_of known at == 0) g) k,
    λ k. absurd (of_nothing (idles_of known at) (kind_of (first_unit from.rest) % 64) (right_true (bit_and (fails_of known at) (begins wanted) == 0) (idles_of known at == 0) g) k),
  )
  told_by P f u at from answer (Some (rule.Name other)) g h =
      let k = kind_of (first_unit from.rest) % 64 in
      let a : is_within (fails_of known at) (fails_of known other) ≡ true = left_true _ (is_within (idles_of known at) (idles_of known other)) g in
      let b : is_within (idles_of known at) (idles_of known other) ≡ true = right_true (is_within (fails_of known at) (fails_of known other)) _ g in
      let same : from.rest ≡ (opened noting at from).rest = sym (noted_rest noting (enters at ∷ []) from) in
      let it = f other (opened noting at from) h.0 h.1 in (
        λ e. h.2 ∙ ap (option_map (closed noting (length from.log)))
            (it.0 (subst (λ (t : Forest). IsOf (fails_of known other) (kind_of (first_unit t))) same (of_outer (fails_of known at) (fails_of known other) k a e))),
        λ e. h.2 ∙ ap (option_map (closed noting (length from.log)))
            (it.1 (subst (λ (t : Forest). IsOf (idles_of known other) (kind_of (first_unit t))) same (of_outer (idles_of known at) (idles_of known other) k b e)))
            ∙ ap Some (closed_opened noting at from),
      )
  told_by P f u at from answer (Some (rule.Sequence first second)) g h =
      let k = kind_of (first_unit from.rest) % 64 in
      let fs = bit_and (idles_of known first) (fails_of known second) in
      let all = bit_or (fails_of known first) fs in
      let both = bit_and (idles_of known first) (idles_of known second) in
      let a : is_within (fails_of known at) all ≡ true = left_true _ (is_within (idles_of known at) both) g in
      let b : is_within (idles_of known at) both ≡ true = right_true (is_within (fails_of known at) all) _ g in (
        λ e. sequence_fails P f first second from answer h (elim (of_one (fails_of known first) fs k (of_outer (fails_of known at) all k a e)) [
          | inl c ↦ inl c
          | inr c ↦ inr (of_both (idles_of known first) (fails_of known second) k c)
        ]),
        λ e. let it = of_both (idles_of known first) (idles_of known second) k (of_outer (idles_of known at) both k b e) in sequence_idles P f first second from answer h it.0 it.1,
      )
  told_by P f u at from answer (Some (rule.Choice first other)) g h =
      let k = kind_of (first_unit from.rest) % 64 in
      let both = bit_and (fails_of known first) (fails_of known other) in
      let fs = bit_and (fails_of known first) (idles_of known other) in
      let all = bit_or (idles_of known first) fs in
      let a : is_within (fails_of known at) both ≡ true = left_true _ (is_within (idles_of known at) all) g in
      let b : is_within (idles_of known at) all ≡ true = right_true (is_within (fails_of known at) both) _ g in (
        λ e. let it = of_both (fails_of known first) (fails_of known other) k (of_outer (fails_of known at) both k a e) in choice_fails P f first other from answer h it.0 it.1,
        λ e. choice_idles P f first other from answer h (elim (of_one (idles_of known first) fs k (of_outer (idles_of known at) all k b e)) [
          | inl c ↦ inl c
          | inr c ↦ inr (of_both (fails_of known first) (idles_of known other) k c)
        ]),
      )
  told_by P f u at from answer (Some (rule.ZeroOrMore part)) g h =
      let k = kind_of (first_unit from.rest) % 64 in
      let a : (fails_of known at == 0) ≡ true = left_true (fails_of known at == 0) (is_within (idles_of known at) (fails_of known part)) g in
      let b : is_within (idles_of known at) (fails_of known part) ≡ true = right_true (fails_of known at == 0) (is_within (idles_of known at) (fails_of known part)) g in
      (λ e. absurd (of_nothing (fails_of known at) k a e), λ e. many_idles P f at part from answer h (of_outer (idles_of known at) (fails_of known part) k b e))
  told_by P f u at from answer (Some (rule.Not part)) g h =
      let k = kind_of (first_unit from.rest) % 64 in
      let all = bit_or (idles_of known part) (always_passes (slice_get rules part)) in
      let a : is_within (fails_of known at) all ≡ true = left_true _ (is_within (idles_of known at) (fails_of known part)) g in
      let b : is_within (idles_of known at) (fails_of known part) ≡ true = right_true (is_within (fails_of known at) all) _ g in (
        λ e. not_fails P f u part from answer h (of_one (idles_of known part) (always_passes (slice_get rules part)) k (of_outer (fails_of known at) all k a e)),
        λ e. not_idles P f part from answer h (of_outer (idles_of known at) (fails_of known part) k b e),
      )

  -- Each derivation gives this answer.
  told : (depth : ℕ) → TellsOf (ParsesIn noting rules depth)
  told zero at from answer h = absurd h
  told (suc depth) at from answer h = told_by (ParsesIn noting rules depth) (told depth) (units_taken noting rules depth) at from answer (slice_get rules at) (right_at at) h

  agrees_by : (it : Option Known) (kind : ℕ) (from : Position) (answer : Option Position) → (bit_at (fails_in it) kind ≡ 1 → answer ≡ None) → (bit_at (idles_in it) kind ≡ 1 → answer ≡ Some from)
      → Agrees (glance_in it kind) from answer
  agrees_by None kind from answer f g = tt
  agrees_by (Some it) kind from answer f g = by (bit_at it.fails kind == 1) (bit_at it.idles kind == 1) refl refl
    where
      by : (a b : Bool) → (bit_at it.fails kind == 1) ≡ a → (bit_at it.idles kind == 1) ≡ b → Agrees (cond a glance.Fails (cond b glance.Idles glance.Open)) from answer
      by true b p q = f (eqb-true (bit_at it.fails kind) 1 p)
      by false true p q = g (eqb-true (bit_at it.idles kind) 1 q)
      by false false p q = tt

  -- So a look agrees with the answer.
  pub agrees : (depth at : ℕ) (from : Position) (answer : Option Position) → ParsesIn noting rules depth at from answer → Agrees (glance_at known at from) from answer
  agrees depth at from answer h =
      let it = told depth at from answer h in agrees_by (slice_get known at) (kind_of (first_unit from.rest) % 64) from answer it.0 it.1
