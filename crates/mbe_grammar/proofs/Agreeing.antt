-- When a look at an expression agrees with its answers.
use Rattle.std.proofs.Common.{◌≡◌, ℕ, suc, zero, Bool, List, Some, None, subst}
use Rattle.std.specs.Prelude.{slice_get, Option}
use Rattle.mbe_grammar.specs.declared.known.Glance.{Glance}
use Rattle.mbe_grammar.specs.declared.known.Glance.TheVariants as glance
use Rattle.mbe_grammar.specs.declared.rule.Rule.{Rule}
use Rattle.mbe_grammar.specs.declared.rule.Rule.TheVariants as rule
use Rattle.mbe_grammar.specs.declared.test.Test.{Test}
use Rattle.mbe_grammar.specs.Parses.{Answering, Holds, ParsesIn}
use Rattle.mbe_grammar.specs.Positions.{Position, takes}

-- an answer is as a look says
abbrev pub Agrees : Glance → (from : Position) → (answer : Option Position) → Type 0
Agrees glance.Fails from answer = answer ≡ None
Agrees glance.Idles from answer = answer ≡ Some from
Agrees glance.Open from answer = Unit {0}

module _ (noting : Bool) (rules : List Rule) where
  -- a unit that is an expression by itself is taken
  abbrev pub UnitsTaken : Answering → Type 0
  UnitsTaken P = (at : ℕ) (from : Position) (answer : Option Position) (wanted : Test) → slice_get rules at ≡ Some (rule.Unit wanted) → P at from answer → answer ≡ takes noting wanted from

  pub units_taken : (depth : ℕ) → UnitsTaken (ParsesIn noting rules depth)
  units_taken zero at from answer wanted e h = absurd h
  units_taken (suc depth) at from answer wanted e h = subst (λ it. Holds noting (ParsesIn noting rules depth) at it from answer) e h

  -- a look agrees with all answers
  abbrev pub AgreesWith : (looks : ℕ → Position → Glance) → Answering → Type 0
  AgreesWith looks P = (at : ℕ) (from : Position) (answer : Option Position) → P at from answer → Agrees (looks at from) from answer
