-- The log and the trees that are left have no more tokens than the trees that were read.
use Rattle.std.proofs.Common.{◌≡◌, inl, inr, ◌+◌, ◌≤◌, ℕ, suc, zero, Bool, true, false, List, [], ◌∷◌, ◌++◌, length, take, Some, None, refl, sym, subst, ap, cond, arith}
use Rattle.std.specs.Prelude.{◌==◌, slice_get, Option, option_map}
use Rattle.tt.specs.Forest.{Forest, end, leaf, node, size}
use Rattle.tt.specs.Gluing.{after_trees}
use Rattle.mbe_grammar.specs.declared.rule.Rule.{Rule}
use Rattle.mbe_grammar.specs.declared.rule.Rule.TheVariants as rule
use Rattle.mbe_grammar.specs.declared.test.Test.{Test}
use Rattle.mbe_grammar.specs.declared.test.Test.TheVariants as test
use Rattle.mbe_grammar.specs.Parses.{Answering, Holds, ParsesIn, Parses}
use Rattle.mbe_grammar.specs.Positions.{Entry, Position, enters, leaves, takes_unit, holds, entry_of, count_of, taken, noted, opened, cut, closed}
use Rattle.mbe_grammar.specs.Tests.{named, passes}
use Rattle.mbe_grammar.specs.Units.{first_unit}
use Rattle.mbe_grammar.proofs.Notes.{closed_rest}
use Rattle.mbe_grammar.proofs.Shrinking.{taken_fits}

-- the number of tokens in the subtrees of the log, and one more for each subtree
abbrev pub log_weight : List Entry → ℕ
log_weight [] = 0
log_weight (enters name ∷ log) = log_weight log
log_weight (leaves ∷ log) = log_weight log
log_weight (takes_unit count ∷ log) = log_weight log
log_weight (holds trees close name ∷ log) = suc (size trees + log_weight log)

pub weight_both : (one other : List Entry) → log_weight (one ++ other) ≡ log_weight one + log_weight other
weight_both [] other = omega arith
weight_both (enters name ∷ one) other = weight_both one other
weight_both (leaves ∷ one) other = weight_both one other
weight_both (takes_unit count ∷ one) other = weight_both one other
weight_both (holds trees close name ∷ one) other = omega (arith, weight_both one other)

weight_part : (n : ℕ) (log : List Entry) → log_weight (take n log) ≤ log_weight log
weight_part zero log = omega arith
weight_part (suc n) [] = omega arith
weight_part (suc n) (enters name ∷ log) = weight_part n log
weight_part (suc n) (leaves ∷ log) = weight_part n log
weight_part (suc n) (takes_unit count ∷ log) = weight_part n log
weight_part (suc n) (holds trees close name ∷ log) = omega (arith, weight_part n log)

-- an answer weighs no more, with its log
abbrev pub IsLight : (from : Position) → (answer : Option Position) → Type 0
IsLight from None = Unit {0}
IsLight from (Some to) = log_weight to.log + size to.rest ≤ log_weight from.log + size from.rest

plain : (wanted : Test) (trees : Forest) → passes wanted (first_unit trees) ≡ true → 0 + size (after_trees (count_of wanted trees) trees) ≤ size trees
plain wanted trees e = omega (arith, taken_fits wanted trees e)

-- what a test takes weighs no more
abbrev Light : (wanted : Test) (trees : Forest) → Type 0
Light wanted trees = log_weight (entry_of (named wanted) (count_of wanted trees) trees ∷ []) + size (after_trees (count_of wanted trees) trees) ≤ size trees

entry_light : (wanted : Test) (trees : Forest) → passes wanted (first_unit trees) ≡ true → Light wanted trees
entry_light (test.Holding kind name) end e = plain (test.Holding kind name) end e
entry_light (test.Holding kind name) (leaf it rest) e = plain (test.Holding kind name) (leaf it rest) e
entry_light (test.Holding kind name) (node delimiter children rest) e = omega arith
entry_light (test.OpaqueHolding name) end e = plain (test.OpaqueHolding name) end e
entry_light (test.OpaqueHolding name) (leaf it rest) e = plain (test.OpaqueHolding name) (leaf it rest) e
entry_light (test.OpaqueHolding name) (node delimiter children rest) e = omega arith
entry_light (test.Is it) trees e = plain (test.Is it) trees e
entry_light (test.Front char) trees e = plain (test.Front char) trees e
entry_light test.Any trees e = plain test.Any trees e
entry_light test.Name trees e = plain test.Name trees e
entry_light test.PathSegment trees e = plain test.PathSegment trees e
entry_light test.TruthValue trees e = plain test.TruthValue trees e
entry_light test.Literal trees e = plain test.Literal trees e
entry_light test.Text trees e = plain test.Text trees e
entry_light test.Number trees e = plain test.Number trees e
entry_light test.Delimited trees e = plain test.Delimited trees e
entry_light test.Opaque trees e = plain test.Opaque trees e
entry_light test.BinaryOperator trees e = plain test.BinaryOperator trees e
entry_light test.AssignmentOperator trees e = plain test.AssignmentOperator trees e
entry_light test.BeginsExpression trees e = plain test.BeginsExpression trees e

unit_light : (wanted : Test) (from : Position) (b : Bool) → passes wanted (first_unit from.rest) ≡ b → IsLight from (cond b (Some (taken true wanted from)) None)
unit_light wanted from true e =
    let more = entry_of (named wanted) (count_of wanted from.rest) from.rest ∷ [] in
    omega (arith, entry_light wanted from.rest e, weight_both from.log more)
unit_light wanted from false e = tt

here : (from : Position) (answer : Option Position) → answer ≡ Some from → IsLight from answer
here from answer e = subst (IsLight from) (sym e) (omega arith)

nowhere : (from : Position) (answer : Option Position) → answer ≡ None → IsLight from answer
nowhere from answer e = subst (IsLight from) (sym e) tt

further : (from middle : Position) → IsLight from (Some middle) → (answer : Option Position) → IsLight middle answer → IsLight from answer
further from middle a None b = tt
further from middle a (Some to) b = omega (arith, a, b)

-- the end of a name adds no weight
closed_by : (b : Bool) (since : ℕ) (to : Position) → log_weight (cond b (cut since to) (noted true (leaves ∷ []) to)).log ≤ log_weight to.log
closed_by true since to = weight_part since to.log
closed_by false since to = omega (arith, weight_both to.log (leaves ∷ []))

closed_light : (since : ℕ) (to : Position) → log_weight (closed true since to).log ≤ log_weight to.log
closed_light since to = closed_by (length to.log == suc since) since to

named_light : (at : ℕ) (from : Position) (found : Option Position) → IsLight (opened true at from) found → IsLight from (option_map (closed true (length from.log)) found)
named_light at from None l = tt
named_light at from (Some to) l =
    let rest : size (closed true (length from.log) to).rest ≡ size to.rest = ap size (closed_rest true (length from.log) to) in
    omega (arith, l, rest, closed_light (length from.log) to, weight_both from.log (enters at ∷ []))

abbrev pub AreLight : Answering → Type 0
AreLight P = (at : ℕ) (from : Position) (answer : Option Position) → P at from answer → IsLight from answer

light_by : (P : Answering) → AreLight P → (at : ℕ) (it : Option Rule) (from : Position) (answer : Option Position) → Holds true P at it from answer → IsLight from answer
light_by P f at None from answer h = nowhere from answer h
light_by P f at (Some rule.Empty) from answer h = here from answer h
light_by P f at (Some (rule.Unit wanted)) from answer h = subst (IsLight from) (sym h) (unit_light wanted from (passes wanted (first_unit from.rest)) refl)
light_by P f at (Some (rule.Name other)) from answer h = subst (IsLight from) (sym h.2) (named_light at from h.0 (f other (opened true at from) h.0 h.1))
light_by P f at (Some (rule.Sequence first second)) from answer (inl h) = nowhere from answer h.1
light_by P f at (Some (rule.Sequence first second)) from answer (inr h) = further from h.0 (f first from (Some h.0) h.1) answer (f second h.0 answer h.2)
light_by P f at (Some (rule.Choice first other)) from answer (inl h) = f other from answer h.1
light_by P f at (Some (rule.Choice first other)) from answer (inr h) = subst (IsLight from) (sym h.2) (f first from (Some h.0) h.1)
light_by P f at (Some (rule.ZeroOrMore part)) from answer (inl h) = here from answer h.1
light_by P f at (Some (rule.ZeroOrMore part)) from answer (inr h) = further from h.0 (f part from (Some h.0) h.1) answer (f at h.0 answer h.2)
light_by P f at (Some (rule.Not part)) from answer (inl h) = here from answer h.1
light_by P f at (Some (rule.Not part)) from answer (inr h) = nowhere from answer h.2

light_in : (rules : List Rule) (depth : ℕ) → AreLight (ParsesIn true rules depth)
light_in rules zero at from answer h = absurd h
light_in rules (suc depth) at from answer h = light_by (ParsesIn true rules depth) (light_in rules depth) at (slice_get rules at) from answer h

-- An expression does not add weight.
pub light : (rules : List Rule) → AreLight (Parses true rules)
unfolding Parses
light rules at from answer h = light_in rules h.0 at from answer h.1
