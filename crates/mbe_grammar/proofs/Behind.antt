-- An expression ends after some number of the trees that it was read from.
use Rattle.std.proofs.Common.{length, ◌≡◌, inl, inr, ◌+◌, ℕ, suc, zero, Bool, true, false, List, Some, None, refl, sym, subst, ap, ap₂, ◌∙◌, cond, arith}
use Rattle.std.specs.Prelude.{slice_get, Option, option_map}
use Rattle.tt.specs.Forest.{Forest}
use Rattle.tt.specs.Gluing.{after_trees}
use Rattle.tt.specs.Moves.{after_tree}
use Rattle.mbe_grammar.specs.declared.rule.Rule.{Rule}
use Rattle.mbe_grammar.specs.declared.rule.Rule.TheVariants as rule
use Rattle.mbe_grammar.specs.declared.test.Test.{Test}
use Rattle.mbe_grammar.specs.Parses.{Answering, Holds, ParsesIn, Parses}
use Rattle.mbe_grammar.specs.Positions.{Position, first_position, behind, closed}
use Rattle.mbe_grammar.specs.Tests.{passes, taken_size}
use Rattle.mbe_grammar.specs.Units.{first_unit}

-- After that many trees, and then that many more.
pub after_both : (n m : ℕ) (trees : Forest) → after_trees m (after_trees n trees) ≡ after_trees (n + m) trees
after_both zero m trees = let same : m ≡ 0 + m = omega arith in ap (λ k. after_trees k trees) same
after_both (suc n) m trees = let same : suc (n + m) ≡ suc n + m = omega arith in after_both n m (after_tree trees) ∙ ap (λ k. after_trees k trees) same

behind_both : (n m : ℕ) (from : Position) → behind m (behind n from) ≡ behind (n + m) from
behind_both n m from =
    let same : from.passed + n + m ≡ from.passed + (n + m) = omega arith in
    ap₂ (λ (p : ℕ) (r : Forest). record { passed = p; rest = r; log = from.log }) same (after_both n m from.rest)

behind_none : (from : Position) → from ≡ behind 0 from
behind_none from = let same : from.passed ≡ from.passed + 0 = omega arith in ap (λ (p : ℕ). record { passed = p; rest = from.rest; log = from.log }) same

-- Nothing is noted at the end of a name.
pub closed_none : (since : ℕ) (found : Option Position) → option_map (closed false since) found ≡ found
closed_none since None = refl
closed_none since (Some to) = refl

-- an answer is after that many trees, if it is a place
abbrev pub IsBehind : (from : Position) → (answer : Option Position) → Type 0
IsBehind from None = Unit {0}
IsBehind from (Some to) = (n : ℕ) × (to ≡ behind n from)

-- What is after a later place is also after the earlier one.
further : (from middle : Position) (n : ℕ) → middle ≡ behind n from → (answer : Option Position) → IsBehind middle answer → IsBehind from answer
further from middle n e None b = tt
further from middle n e (Some to) b = (n + b.0, b.1 ∙ ap (behind b.0) e ∙ behind_both n b.0 from)

taken_behind : (wanted : Test) (from : Position) (b : Bool) → IsBehind from (cond b (Some (behind (taken_size wanted (first_unit from.rest)) from)) None)
taken_behind wanted from true = (taken_size wanted (first_unit from.rest), refl)
taken_behind wanted from false = tt

here : (from : Position) (answer : Option Position) → answer ≡ Some from → IsBehind from answer
here from answer e = subst (IsBehind from) (sym e) (0, behind_none from)

nowhere : (from : Position) (answer : Option Position) → answer ≡ None → IsBehind from answer
nowhere from answer e = subst (IsBehind from) (sym e) tt

abbrev pub AreBehind : Answering → Type 0
AreBehind P = (at : ℕ) (from : Position) (answer : Option Position) → P at from answer → IsBehind from answer

behind_by : (P : Answering) → AreBehind P → (at : ℕ) (it : Option Rule) (from : Position) (answer : Option Position) → Holds false P at it from answer
    → IsBehind from answer
behind_by P f at None from answer h = nowhere from answer h
behind_by P f at (Some rule.Empty) from answer h = here from answer h
behind_by P f at (Some (rule.Unit wanted)) from answer h =
    subst (IsBehind from) (sym h) (taken_behind wanted from (passes wanted (first_unit from.rest)))
behind_by P f at (Some (rule.Name other)) from answer h = subst (IsBehind from) (sym (h.2 ∙ closed_none (length from.log) h.0)) (f other from h.0 h.1)
behind_by P f at (Some (rule.Sequence first second)) from answer (inl h) = nowhere from answer h.1
behind_by P f at (Some (rule.Sequence first second)) from answer (inr h) =
    let one = f first from (Some h.0) h.1 in further from h.0 one.0 one.1 answer (f second h.0 answer h.2)
behind_by P f at (Some (rule.Choice first other)) from answer (inl h) = f other from answer h.1
behind_by P f at (Some (rule.Choice first other)) from answer (inr h) = subst (IsBehind from) (sym h.2) (f first from (Some h.0) h.1)
behind_by P f at (Some (rule.ZeroOrMore part)) from answer (inl h) = here from answer h.1
behind_by P f at (Some (rule.ZeroOrMore part)) from answer (inr h) =
    let one = f part from (Some h.0) h.1 in further from h.0 one.0 one.1 answer (f at h.0 answer h.2)
behind_by P f at (Some (rule.Not part)) from answer (inl h) = here from answer h.1
behind_by P f at (Some (rule.Not part)) from answer (inr h) = nowhere from answer h.2

behind_in : (rules : List Rule) (depth : ℕ) → AreBehind (ParsesIn false rules depth)
behind_in rules zero at from answer h = absurd h
behind_in rules (suc depth) at from answer h = behind_by (ParsesIn false rules depth) (behind_in rules depth) at (slice_get rules at) from answer h

-- An expression ends after some number of trees.
pub parsed_behind : (rules : List Rule) → AreBehind (Parses false rules)
unfolding Parses
parsed_behind rules at from answer h = behind_in rules h.0 at from answer h.1

-- So the number of passed trees is the number that the place is after.
pub counted : (trees : Forest) (to : Position) → IsBehind (first_position trees) (Some to) → to ≡ behind to.passed (first_position trees)
counted trees to b =
    let passed : to.passed ≡ 0 + b.0 = ap (λ (p : Position). p.passed) b.1 in
    let same : b.0 ≡ to.passed = omega (arith, passed) in
    b.1 ∙ ap (λ n. behind n (first_position trees)) same
