-- What an expression of a table takes, or that it fails.
use Rattle.std.specs.Prelude.{◌≡◌, ◌⊎◌, ℕ, zero, suc, Bool, List, length, Option, None, Some, option_map, slice_get}
use Rattle.mbe_grammar.specs.declared.rule.Rule.{Rule}
use Rattle.mbe_grammar.specs.declared.rule.Rule.TheVariants as rule
use Rattle.mbe_grammar.specs.Positions.{Position, takes, opened, closed}

-- answers of a table's expressions: the expression, the place where it is read, and the place where it ends, or none if it fails
abbrev pub Answering : Type 1
Answering = (at : ℕ) → (from : Position) → (answer : Option Position) → Type 0

-- the expression has this answer, if `P` gives the answers of its parts. `noting` says whether what is taken goes to the log
abbrev pub Holds : (noting : Bool) → (P : Answering) → (at : ℕ) → Option Rule → (from : Position) → (answer : Option Position) → Type 0
Holds noting P at None from answer = answer ≡ None
Holds noting P at (Some rule.Empty) from answer = answer ≡ Some from
Holds noting P at (Some (rule.Unit wanted)) from answer = answer ≡ takes noting wanted from
Holds noting P at (Some (rule.Name other)) from answer =
    (found : Option Position) × P other (opened noting at from) found × (answer ≡ option_map (closed noting (length from.log)) found)
Holds noting P at (Some (rule.Sequence first second)) from answer =
    (P first from None × (answer ≡ None)) ⊎ ((middle : Position) × P first from (Some middle) × P second middle answer)
Holds noting P at (Some (rule.Choice first other)) from answer =
    (P first from None × P other from answer) ⊎ ((to : Position) × P first from (Some to) × (answer ≡ Some to))
Holds noting P at (Some (rule.ZeroOrMore part)) from answer =
    (P part from None × (answer ≡ Some from)) ⊎ ((middle : Position) × P part from (Some middle) × P at middle answer)
Holds noting P at (Some (rule.Not part)) from answer =
    (P part from None × (answer ≡ Some from)) ⊎ ((to : Position) × P part from (Some to) × (answer ≡ None))

-- the expression has this answer by a derivation that is not deeper
abbrev pub ParsesIn : (noting : Bool) → List Rule → (depth : ℕ) → Answering
ParsesIn noting rules zero at from answer = ⊥
ParsesIn noting rules (suc depth) at from answer = Holds noting (ParsesIn noting rules depth) at (slice_get rules at) from answer

-- the expression at that index of the table, read from there on, has this answer
unfoldable pub Parses : (noting : Bool) → List Rule → Answering
Parses noting rules at from answer = (depth : ℕ) × ParsesIn noting rules depth at from answer
