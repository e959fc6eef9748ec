-- Answers and derivations by a small table, by computation.
use Rattle.std.proofs.Common.{inl, inr, true, false, List, [], ◌∷◌, None, Some, refl}
use Rattle.tt.specs.Forest.{Forest, end, node}
use Rattle.tt.specs.Types.DelimiterKind.TheVariants as delimiter
use Rattle.tt.specs.Types.Span.{Span}
use Rattle.mbe_grammar.specs.declared.event.Event.TheVariants as event
use Rattle.mbe_grammar.specs.declared.rule.Rule.{Rule}
use Rattle.mbe_grammar.specs.declared.rule.Rule.TheVariants as rule
use Rattle.mbe_grammar.specs.declared.test.Test.TheVariants as test
use Rattle.mbe_grammar.specs.Derivations.{DerivesIn, Derives, RefusesIn, Refuses, TakesDeep, inside}
use Rattle.mbe_grammar.specs.Derivations.{whole as whole_of}
use Rattle.mbe_grammar.specs.Parses.{ParsesIn, Parses}
use Rattle.mbe_grammar.specs.Positions.{Entry, Position, enters, leaves, takes_unit, holds, first_position}

-- 0: the name of blocks; 1: blocks; 2: a block in braces, which contains blocks; 3: two blocks; 4: two blocks, or else one; 5: no block comes
-- next; 6: no block comes next, or one; 7: the name of a block that contains 9; 8: that block; 9: the name of what begins with no block; 10: a
-- subtree with any contents; 11: its name; 12: the name of nothing; 13: nothing
abbrev toy : List Rule
toy =
    rule.Name 1 ∷ rule.ZeroOrMore 2 ∷ rule.Unit (test.Holding delimiter.Brace 0) ∷ rule.Sequence 2 2 ∷ rule.Choice 3 2 ∷ rule.Not 2 ∷ rule.Choice 5 2
    ∷ rule.Name 8 ∷ rule.Unit (test.Holding delimiter.Brace 9) ∷ rule.Name 5 ∷ rule.Unit test.Delimited ∷ rule.Name 10 ∷ rule.Name 13 ∷ rule.Empty ∷ []

module _ (span : Span) where
  abbrev block : Forest → Forest → Forest
  block = node (record { open_span = span; close = span; kind = delimiter.Brace })

  -- {{}}
  abbrev nested : Forest
  nested = block (block end end) end

  -- the place after one tree, with that log
  abbrev behind_one : List Entry → Position
  behind_one log = record { passed = 1; rest = end; log = log }

  -- The log has no entry for what the first part of the choice took before it failed.
  chosen : ParsesIn true toy 4 4 (first_position nested) (Some (behind_one (holds (block end end) span 0 ∷ [])))
  chosen = inl (inr (behind_one (holds (block end end) span 0 ∷ []), refl, refl), refl)

  -- Neither for what a negation read.
  looked : ParsesIn true toy 4 6 (first_position nested) (Some (behind_one (holds (block end end) span 0 ∷ [])))
  looked = inl (inr (behind_one (holds (block end end) span 0 ∷ []), refl, refl), refl)

  -- Nothing is noted if that is not wanted.
  silent : ParsesIn false toy 4 6 (first_position nested) (Some (behind_one []))
  silent = inl (inr (behind_one [], refl, refl), refl)

  -- No trees are blocks. The name took nothing, so there is no event.
  empty : DerivesIn toy 1 0 end []
  unfolding Parses
  empty = (first_position end, (3, (Some (record { passed = 0; rest = end; log = enters 0 ∷ [] }), inl (refl, refl), refl)), refl, refl)

  -- the place in a block, and the place after the name
  abbrev within : Forest → Position
  within trees = behind_one (enters 0 ∷ holds trees span 0 ∷ [])

  abbrev after : Forest → Position
  after trees = behind_one (enters 0 ∷ holds trees span 0 ∷ leaves ∷ [])

  -- A block is blocks.
  one : DerivesIn toy 2 0 (block end end) (event.Enter 0 ∷ event.Open ∷ event.Close ∷ event.Leave ∷ [])
  unfolding Parses
  one = (
    after end,
    (4, (Some (within end), inr (within end, refl, inl (refl, refl)), refl)),
    refl,
    (event.Open ∷ event.Close ∷ event.Leave ∷ [], ([], event.Leave ∷ [], empty, ([], refl, refl), refl), refl),
  )

  -- A block that contains a block is blocks.
  whole : DerivesIn toy 3 0 nested (event.Enter 0 ∷ event.Open ∷ event.Enter 0 ∷ event.Open ∷ event.Close ∷ event.Leave ∷ event.Close ∷ event.Leave ∷ [])
  unfolding Parses
  whole = (
    after (block end end),
    (4, (Some (within (block end end)), inr (within (block end end), refl, inl (refl, refl)), refl)),
    refl,
    (
      event.Open ∷ event.Enter 0 ∷ event.Open ∷ event.Close ∷ event.Leave ∷ event.Close ∷ event.Leave ∷ [],
      (event.Enter 0 ∷ event.Open ∷ event.Close ∷ event.Leave ∷ [], event.Leave ∷ [], one, ([], refl, refl), refl),
      refl,
    ),
  )

  -- A block that must contain no block is refused at its contents.
  refused : RefusesIn toy 2 (whole_of 7 nested) (inside (block end end) span 9)
  unfolding Parses
  refused = inr (
    behind_one (enters 7 ∷ holds (block end end) span 9 ∷ leaves ∷ []),
    (2, (Some (behind_one (enters 7 ∷ holds (block end end) span 9 ∷ [])), refl, refl)),
    inl (inl ((3, (None, inr (record { passed = 1; rest = end; log = enters 9 ∷ holds end span 0 ∷ [] }, refl, refl), refl)), refl)),
  )

  -- A subtree with any contents is a unit.
  any_contents : DerivesIn toy 1 11 nested (event.Enter 11 ∷ event.Token 1 ∷ event.Leave ∷ [])
  unfolding Parses
  any_contents = (
    behind_one (enters 11 ∷ takes_unit 1 ∷ leaves ∷ []),
    (2, (Some (behind_one (enters 11 ∷ takes_unit 1 ∷ [])), refl, refl)),
    refl,
    (event.Token 1 ∷ event.Leave ∷ [], (event.Leave ∷ [], ([], refl, refl), refl), refl),
  )

  -- An expression that stops before the end is refused at its own place.
  stopped : RefusesIn toy 1 (whole_of 12 nested) (whole_of 12 nested)
  unfolding Parses
  stopped = inr (
    first_position nested,
    (2, (Some (record { passed = 0; rest = nested; log = enters 12 ∷ [] }), refl, refl)),
    (λ e. absurd (cc e), refl),
  )

  -- A block that contains a block is taken with its contents.
  taken_deep : TakesDeep toy 0 nested (Some 1)
  unfolding Parses Derives
  taken_deep = (
    after (block end end),
    (4, (Some (within (block end end)), inr (within (block end end), refl, inl (refl, refl)), refl)),
    refl,
    event.Enter 0 ∷ event.Open ∷ event.Enter 0 ∷ event.Open ∷ event.Close ∷ event.Leave ∷ event.Close ∷ event.Leave ∷ [],
    (
      event.Open ∷ event.Enter 0 ∷ event.Open ∷ event.Close ∷ event.Leave ∷ event.Close ∷ event.Leave ∷ [],
      (event.Enter 0 ∷ event.Open ∷ event.Close ∷ event.Leave ∷ [], event.Leave ∷ [], (2, one), ([], refl, refl), refl),
      refl,
    ),
  )

  -- A block that must contain no block is not.
  not_deep : TakesDeep toy 7 nested None
  unfolding Parses Refuses
  not_deep = inr (
    behind_one (enters 7 ∷ holds (block end end) span 9 ∷ leaves ∷ []),
    (2, (Some (behind_one (enters 7 ∷ holds (block end end) span 9 ∷ [])), refl, refl)),
    inside (block end end) span 9,
    inl (1, inl ((3, (None, inr (record { passed = 1; rest = end; log = enters 9 ∷ holds end span 0 ∷ [] }, refl, refl), refl)), refl)),
  )
