-- What the expressions of a small table try, by computation.
use Rattle.std.proofs.Common.{inl, inr, ℕ, suc, zero, List, [], ◌∷◌, refl}
use Rattle.tt.specs.Forest.{Forest, end, node}
use Rattle.tt.specs.Types.DelimiterKind.TheVariants as delimiter
use Rattle.tt.specs.Types.Span.{Span}
use Rattle.mbe_grammar.specs.declared.rule.Rule.{Rule}
use Rattle.mbe_grammar.specs.declared.rule.Rule.TheVariants as rule
use Rattle.mbe_grammar.specs.declared.test.Test.TheVariants as test
use Rattle.mbe_grammar.specs.Parses.{Parses}
use Rattle.mbe_grammar.specs.Positions.{Position, first_position}
use Rattle.mbe_grammar.specs.Trying.{TriesIn}

-- 0: a subtree; 1: a literal; 2: a name; 3: a subtree, then a literal; 4: a literal or a name; 5: no subtree comes next; 6: no subtree comes
-- next, then a literal; 7: subtrees
abbrev toy : List Rule
toy = rule.Unit test.Delimited ∷ rule.Unit test.Literal ∷ rule.Unit test.Name ∷ rule.Sequence 0 1 ∷ rule.Choice 1 2 ∷ rule.Not 0 ∷ rule.Sequence 5 1 ∷ rule.ZeroOrMore 0 ∷ []

module _ (span : Span) where
  -- {}
  abbrev block : Forest
  block = node (record { open_span = span; close = span; kind = delimiter.Brace }) end end

  -- the place after it
  abbrev behind_it : Position
  behind_it = record { passed = 1; rest = end; log = [] }

  -- A sequence tries its second part where the first ends.
  second : TriesIn toy 2 3 (first_position block) 1 1
  unfolding Parses
  second = inr (behind_it, (1, refl), (refl, refl))

  -- A choice tries both parts at one place if the first fails.
  one : TriesIn toy 2 4 (first_position block) 1 0
  one = inl (refl, refl)

  other : TriesIn toy 2 4 (first_position block) 2 0
  unfolding Parses
  other = inr ((1, refl), (refl, refl))

  -- A repetition tries its part again where it stops.
  stops : TriesIn toy 3 7 (first_position block) 0 1
  unfolding Parses
  stops = inr (behind_it, (1, refl), inl (refl, refl))

-- What comes after a negation is tried, and what the negation reads is not.
behind : TriesIn toy 2 6 (first_position end) 1 0
unfolding Parses
behind = inr (first_position end, (2, inl (refl, refl)), (refl, refl))

never : (depth unit passed : ℕ) (from : Position) → TriesIn toy depth 5 from unit passed → ⊥
never zero unit passed from h = h
never (suc depth) unit passed from h = h
