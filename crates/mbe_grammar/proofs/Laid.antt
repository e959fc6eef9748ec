-- Expressions that are laid out as rules have exactly the rules' answers.
use Rattle.std.proofs.Common.{◌≡◌, inl, inr, ℕ, suc, zero, Bool, List, Some, None, sym, subst}
use Rattle.std.specs.Prelude.{slice_get, Option}
use Rattle.mbe_grammar.specs.declared.rule.Rule.{Rule}
use Rattle.mbe_grammar.specs.declared.rule.Rule.TheVariants as rule
use Rattle.mbe_grammar.specs.Expressions.{Expression, nothing, unit, name, sequence, choice, many, never, AnswersIn, Answers}
use Rattle.mbe_grammar.specs.Layout.{IsLaid, AreLaid}
use Rattle.mbe_grammar.specs.Names.{Name, start}
use Rattle.mbe_grammar.specs.Parses.{Holds, ParsesIn, Parses}
use Rattle.mbe_grammar.specs.Positions.{Position, opened}

module _ (noting : Bool) (rules : List Rule) (stands : Name → Expression) (laid : AreLaid rules start stands) where
  by_rule : (depth at : ℕ) (from : Position) (answer : Option Position) (it : Rule) → slice_get rules at ≡ Some it → Holds noting (ParsesIn noting rules depth) at (Some it) from answer → ParsesIn noting rules (suc depth) at from answer
  by_rule depth at from answer it is h = subst (λ r. Holds noting (ParsesIn noting rules depth) at r from answer) (sym is) h

  of_rule : (depth at : ℕ) (from : Position) (answer : Option Position) (it : Rule) → slice_get rules at ≡ Some it → ParsesIn noting rules (suc depth) at from answer → Holds noting (ParsesIn noting rules depth) at (Some it) from answer
  of_rule depth at from answer it is h = subst (λ r. Holds noting (ParsesIn noting rules depth) at r from answer) is h

  -- From the grammar to the rules, up to a depth.
  to_rules : (depth : ℕ) (it : Expression) (at : ℕ) (from : Position) (answer : Option Position) → IsLaid rules start it at → AnswersIn noting stands depth it from answer → ParsesIn noting rules depth at from answer
  to_rules zero it at from answer l h = absurd h
  to_rules (suc depth) nothing at from answer l h = by_rule depth at from answer rule.Empty l h
  to_rules (suc depth) (unit wanted) at from answer l h = by_rule depth at from answer (rule.Unit wanted) l h
  to_rules (suc depth) (name n) at from answer l h =
      let body = laid n in
      subst (λ place. ParsesIn noting rules (suc depth) place from answer) (sym l)
      (by_rule depth (start n) from answer (rule.Name body.0) body.1 (h.0, to_rules depth (stands n) body.0 (opened noting (start n) from) h.0 body.2 h.1, h.2))
  to_rules (suc depth) (sequence first second) at from answer l (inl h) =
      by_rule depth at from answer (rule.Sequence l.0 l.1) l.2 (inl (to_rules depth first l.0 from None l.3 h.0, h.1))
  to_rules (suc depth) (sequence first second) at from answer l (inr h) =
      by_rule depth at from answer (rule.Sequence l.0 l.1) l.2
      (inr (h.0, to_rules depth first l.0 from (Some h.0) l.3 h.1, to_rules depth second l.1 h.0 answer l.4 h.2))
  to_rules (suc depth) (choice first other) at from answer l (inl h) =
      by_rule depth at from answer (rule.Choice l.0 l.1) l.2 (inl (to_rules depth first l.0 from None l.3 h.0, to_rules depth other l.1 from answer l.4 h.1))
  to_rules (suc depth) (choice first other) at from answer l (inr h) =
      by_rule depth at from answer (rule.Choice l.0 l.1) l.2 (inr (h.0, to_rules depth first l.0 from (Some h.0) l.3 h.1, h.2))
  to_rules (suc depth) (many part) at from answer l (inl h) =
      by_rule depth at from answer (rule.ZeroOrMore l.0) l.1 (inl (to_rules depth part l.0 from None l.2 h.0, h.1))
  to_rules (suc depth) (many part) at from answer l (inr h) =
      by_rule depth at from answer (rule.ZeroOrMore l.0) l.1
      (inr (h.0, to_rules depth part l.0 from (Some h.0) l.2 h.1, to_rules depth (many part) at h.0 answer l h.2))
  to_rules (suc depth) (never part) at from answer l (inl h) =
      by_rule depth at from answer (rule.Not l.0) l.1 (inl (to_rules depth part l.0 from None l.2 h.0, h.1))
  to_rules (suc depth) (never part) at from answer l (inr h) =
      by_rule depth at from answer (rule.Not l.0) l.1 (inr (h.0, to_rules depth part l.0 from (Some h.0) l.2 h.1, h.2))

  -- From the rules to the grammar.
  of_rules : (depth : ℕ) (it : Expression) (at : ℕ) (from : Position) (answer : Option Position) → IsLaid rules start it at → ParsesIn noting rules depth at from answer → AnswersIn noting stands depth it from answer
  of_rules zero it at from answer l h = absurd h
  of_rules (suc depth) nothing at from answer l h = of_rule depth at from answer rule.Empty l h
  of_rules (suc depth) (unit wanted) at from answer l h = of_rule depth at from answer (rule.Unit wanted) l h
  of_rules (suc depth) (name n) at from answer l h =
      let body = laid n in
      let there = subst (λ place. ParsesIn noting rules (suc depth) place from answer) l h in
      let found = of_rule depth (start n) from answer (rule.Name body.0) body.1 there in
      (found.0, of_rules depth (stands n) body.0 (opened noting (start n) from) found.0 body.2 found.1, found.2)
  of_rules (suc depth) (sequence first second) at from answer l h = elim (of_rule depth at from answer (rule.Sequence l.0 l.1) l.2 h) [
    | inl k ↦ inl (of_rules depth first l.0 from None l.3 k.0, k.1)
    | inr k ↦ inr (k.0, of_rules depth first l.0 from (Some k.0) l.3 k.1, of_rules depth second l.1 k.0 answer l.4 k.2)
  ]
  of_rules (suc depth) (choice first other) at from answer l h = elim (of_rule depth at from answer (rule.Choice l.0 l.1) l.2 h) [
    | inl k ↦ inl (of_rules depth first l.0 from None l.3 k.0, of_rules depth other l.1 from answer l.4 k.1)
    | inr k ↦ inr (k.0, of_rules depth first l.0 from (Some k.0) l.3 k.1, k.2)
  ]
  of_rules (suc depth) (many part) at from answer l h = elim (of_rule depth at from answer (rule.ZeroOrMore l.0) l.1 h) [
    | inl k ↦ inl (of_rules depth part l.0 from None l.2 k.0, k.1)
    | inr k ↦ inr (k.0, of_rules depth part l.0 from (Some k.0) l.2 k.1, of_rules depth (many part) at k.0 answer l k.2)
  ]
  of_rules (suc depth) (never part) at from answer l h = elim (of_rule depth at from answer (rule.Not l.0) l.1 h) [
    | inl k ↦ inl (of_rules depth part l.0 from None l.2 k.0, k.1)
    | inr k ↦ inr (k.0, of_rules depth part l.0 from (Some k.0) l.2 k.1, k.2)
  ]

  -- The grammar's answers are the rules' answers.
  pub answers_of_rules : (it : Expression) (at : ℕ) (from : Position) (answer : Option Position) → IsLaid rules start it at → Parses noting rules at from answer → Answers noting stands it from answer
  unfolding Parses Answers
  answers_of_rules it at from answer l h = (h.0, of_rules h.0 it at from answer l h.1)

  pub rules_of_answers : (it : Expression) (at : ℕ) (from : Position) (answer : Option Position) → IsLaid rules start it at → Answers noting stands it from answer → Parses noting rules at from answer
  unfolding Parses Answers
  rules_of_answers it at from answer l h = (h.0, to_rules h.0 it at from answer l h.1)
