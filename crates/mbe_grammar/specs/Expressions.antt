-- Parsing expressions as they are written, and what they take.
use Rattle.std.specs.Prelude.{◌≡◌, ◌⊎◌, ℕ, zero, suc, Bool, List, [], ◌∷◌, length, Option, None, Some, option_map}
use Rattle.tt.specs.Types.DelimiterKind.{DelimiterKind}
use Rattle.mbe_grammar.specs.declared.test.Test.{Test}
use Rattle.mbe_grammar.specs.declared.test.Test.TheVariants as test
use Rattle.mbe_grammar.specs.declared.unit.Unit.{Unit}
use Rattle.mbe_grammar.specs.declared.unit.Unit.TheVariants as unit_of
use Rattle.mbe_grammar.specs.declared.words.Word.{Word}
use Rattle.mbe_grammar.specs.Names.{Name, start}
use Rattle.mbe_grammar.specs.Positions.{Position, takes, opened, closed}

-- a parsing expression: nothing, a unit that passes a test, the expression of a name, a sequence, a choice (the other part only if the
-- first fails), a repetition (as often as possible), and a negation (only if the part fails)
pub data Expression : Type 0 where
  nothing : Expression
  unit : Test → Expression
  name : Name → Expression
  sequence : Expression → Expression → Expression
  choice : Expression → Expression → Expression
  many : Expression → Expression
  never : Expression → Expression

-- none or one
abbrev pub maybe : Expression → Expression
maybe it = choice it nothing

-- one or more
abbrev pub some : Expression → Expression
some it = sequence it (many it)

-- the expression comes next, and is not taken
abbrev pub ahead : Expression → Expression
ahead it = never (never it)

-- one after another
abbrev pub all_behind : Expression → List Expression → Expression
all_behind it [] = it
all_behind it (next ∷ others) = sequence it (all_behind next others)

abbrev pub all_of : List Expression → Expression
all_of [] = nothing
all_of (it ∷ others) = all_behind it others

-- the first that does not fail
abbrev pub either : Expression → List Expression → Expression
either it [] = it
either it (next ∷ others) = choice it (either next others)

abbrev pub one_of : List Expression → Expression
one_of [] = never nothing
one_of (it ∷ others) = either it others

-- that word
abbrev pub word : Word → Expression
word it = unit (test.Is (unit_of.Word it))

-- a `'` and its ident
abbrev pub lifetime : Expression
lifetime = unit (test.Is unit_of.Lifetime)

-- a subtree of that kind
abbrev pub subtree : DelimiterKind → Expression
subtree kind = unit (test.Is (unit_of.Subtree kind))

-- a subtree of that kind, whose trees must be the expression of that name
abbrev pub holding : DelimiterKind → Name → Expression
holding kind n = unit (test.Holding kind (start n))

-- a subtree without printed delimiters, whose trees must be the expression of that name
abbrev pub opaque_holding : Name → Expression
opaque_holding n = unit (test.OpaqueHolding (start n))

-- no tree is left
abbrev pub at_end : Expression
at_end = never (unit test.Any)

-- the unit of these characters
abbrev pub unit_of_chars : List ℕ → Unit
unit_of_chars [] = unit_of.End
unit_of_chars (one ∷ []) = unit_of.Punct one
unit_of_chars (one ∷ two ∷ []) = unit_of.TwoPuncts one two
unit_of_chars (one ∷ two ∷ three ∷ others) = unit_of.ThreePuncts one two three

-- glued puncts
abbrev pub sign : (chars : List ℕ) → Expression
sign chars = unit (test.Is (unit_of_chars chars))

-- a punct, even if others are glued to it
abbrev pub front : (chars : List ℕ) → Expression
front [] = never nothing
front (char ∷ others) = unit (test.Front char)

-- the expression has this answer by a derivation that is not deeper, with these expressions for the names; the answer is where it ends,
-- or none if it fails. `noting` says whether what is taken goes to the log
abbrev pub AnswersIn : (noting : Bool) → (Name → Expression) → (depth : ℕ) → Expression → (from : Position) → (answer : Option Position) → Type 0
AnswersIn noting stands zero it from answer = ⊥
AnswersIn noting stands (suc depth) nothing from answer = answer ≡ Some from
AnswersIn noting stands (suc depth) (unit wanted) from answer = answer ≡ takes noting wanted from
AnswersIn noting stands (suc depth) (name n) from answer =
    (found : Option Position) × AnswersIn noting stands depth (stands n) (opened noting (start n) from) found × (answer ≡ option_map (closed noting (length from.log)) found)
AnswersIn noting stands (suc depth) (sequence first second) from answer =
    (AnswersIn noting stands depth first from None × (answer ≡ None))
    ⊎ ((middle : Position) × AnswersIn noting stands depth first from (Some middle) × AnswersIn noting stands depth second middle answer)
AnswersIn noting stands (suc depth) (choice first other) from answer =
    (AnswersIn noting stands depth first from None × AnswersIn noting stands depth other from answer)
    ⊎ ((to : Position) × AnswersIn noting stands depth first from (Some to) × (answer ≡ Some to))
AnswersIn noting stands (suc depth) (many part) from answer =
    (AnswersIn noting stands depth part from None × (answer ≡ Some from))
    ⊎ ((middle : Position) × AnswersIn noting stands depth part from (Some middle) × AnswersIn noting stands depth (many part) middle answer)
AnswersIn noting stands (suc depth) (never part) from answer =
    (AnswersIn noting stands depth part from None × (answer ≡ Some from))
    ⊎ ((to : Position) × AnswersIn noting stands depth part from (Some to) × (answer ≡ None))

-- the expression has this answer
unfoldable pub Answers : (noting : Bool) → (Name → Expression) → Expression → (from : Position) → (answer : Option Position) → Type 0
Answers noting stands it from answer = (depth : ℕ) × AnswersIn noting stands depth it from answer
