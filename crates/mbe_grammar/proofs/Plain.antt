-- How far an expression reaches does not depend on whether entries are noted.
use Rattle.std.proofs.Common.{◌≡◌, inl, inr, ℕ, suc, zero, Bool, true, false, List, [], ◌∷◌, length, Some, None, refl, ap, ◌∙◌, cond}
use Rattle.std.specs.Prelude.{◌==◌, slice_get, Option, option_map}
use Rattle.mbe_grammar.specs.declared.rule.Rule.{Rule}
use Rattle.mbe_grammar.specs.declared.rule.Rule.TheVariants as rule
use Rattle.mbe_grammar.specs.declared.test.Test.{Test}
use Rattle.mbe_grammar.specs.Parses.{Answering, Holds, ParsesIn, Parses}
use Rattle.mbe_grammar.specs.Positions.{Position, plain, leaves, noted, taken, takes, opened, cut, closed}
use Rattle.mbe_grammar.specs.Tests.{passes}
use Rattle.mbe_grammar.specs.Units.{first_unit}

taken_plain : (wanted : Test) (from : Position) (b : Bool) → option_map plain (cond b (Some (taken true wanted from)) None) ≡ cond b (Some (taken false wanted (plain from))) None
taken_plain wanted from true = refl
taken_plain wanted from false = refl

takes_plain : (wanted : Test) (from : Position) → option_map plain (takes true wanted from) ≡ takes false wanted (plain from)
takes_plain wanted from = taken_plain wanted from (passes wanted (first_unit from.rest))

closed_by : (b : Bool) (since : ℕ) (to : Position) → plain (cond b (cut since to) (noted true (leaves ∷ []) to)) ≡ plain to
closed_by true since to = refl
closed_by false since to = refl

closed_plain : (since none : ℕ) (found : Option Position) → option_map plain (option_map (closed true since) found) ≡ option_map (closed false none) (option_map plain found)
closed_plain since none None = refl
closed_plain since none (Some to) = ap Some (closed_by (length to.log == suc since) since to)

-- each answer of the first is one of the second, without the log
abbrev pub AreSame : (P Q : Answering) → Type 0
AreSame P Q = (at : ℕ) (from : Position) (answer : Option Position) → P at from answer → Q at (plain from) (option_map plain answer)

lifted : (answer found : Option Position) → answer ≡ found → option_map plain answer ≡ option_map plain found
lifted answer found e = ap (option_map plain) e

plain_by : (P Q : Answering) → AreSame P Q → (at : ℕ) (it : Option Rule) (from : Position) (answer : Option Position) → Holds true P at it from answer
    → Holds false Q at it (plain from) (option_map plain answer)
plain_by P Q f at None from answer h = lifted answer None h
plain_by P Q f at (Some rule.Empty) from answer h = lifted answer (Some from) h
plain_by P Q f at (Some (rule.Unit wanted)) from answer h = lifted answer (takes true wanted from) h ∙ takes_plain wanted from
plain_by P Q f at (Some (rule.Name other)) from answer h =
    (option_map plain h.0, f other (opened true at from) h.0 h.1, lifted answer (option_map (closed true (length from.log)) h.0) h.2 ∙ closed_plain (length from.log) 0 h.0)
plain_by P Q f at (Some (rule.Sequence first second)) from answer (inl h) = inl (f first from None h.0, lifted answer None h.1)
plain_by P Q f at (Some (rule.Sequence first second)) from answer (inr h) = inr (plain h.0, f first from (Some h.0) h.1, f second h.0 answer h.2)
plain_by P Q f at (Some (rule.Choice first other)) from answer (inl h) = inl (f first from None h.0, f other from answer h.1)
plain_by P Q f at (Some (rule.Choice first other)) from answer (inr h) = inr (plain h.0, f first from (Some h.0) h.1, lifted answer (Some h.0) h.2)
plain_by P Q f at (Some (rule.ZeroOrMore part)) from answer (inl h) = inl (f part from None h.0, lifted answer (Some from) h.1)
plain_by P Q f at (Some (rule.ZeroOrMore part)) from answer (inr h) = inr (plain h.0, f part from (Some h.0) h.1, f at h.0 answer h.2)
plain_by P Q f at (Some (rule.Not part)) from answer (inl h) = inl (f part from None h.0, lifted answer (Some from) h.1)
plain_by P Q f at (Some (rule.Not part)) from answer (inr h) = inr (plain h.0, f part from (Some h.0) h.1, lifted answer None h.2)

plain_in : (rules : List Rule) (depth : ℕ) → AreSame (ParsesIn true rules depth) (ParsesIn false rules depth)
plain_in rules zero at from answer h = absurd h
plain_in rules (suc depth) at from answer h = plain_by (ParsesIn true rules depth) (ParsesIn false rules depth) (plain_in rules depth) at (slice_get rules at) from answer h

pub parses_plain : (rules : List Rule) → AreSame (Parses true rules) (Parses false rules)
unfolding Parses
parses_plain rules at from answer h = (h.0, plain_in rules h.0 at from answer h.1)
