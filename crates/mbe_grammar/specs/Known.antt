-- What is known of a table's expressions before they are read, by the kind of the first unit.
use Rattle.std.specs.Prelude.{◌-◌, ◌%◌, ◌^◌, ℕ, suc, Bool, ◌&&◌, ◌==◌, nat_lt, List, [], ◌∷◌, length, Option, None, Some, slice_get, map, codes, if◌then◌else◌}
use Rattle.std.specs.Int.{bit_at}
use Rattle.std.specs.Int.RustNames.{bit_and, bit_or}
use Rattle.mbe_grammar.specs.declared.known.Glance.{Glance}
use Rattle.mbe_grammar.specs.declared.known.Glance.TheVariants as glance
use Rattle.mbe_grammar.specs.declared.known.Known.{Known}
use Rattle.mbe_grammar.specs.declared.rule.Rule.{Rule}
use Rattle.mbe_grammar.specs.declared.rule.Rule.TheVariants as rule
use Rattle.mbe_grammar.specs.declared.test.Test.{Test}
use Rattle.mbe_grammar.specs.declared.test.Test.TheVariants as test
use Rattle.mbe_grammar.specs.declared.unit.Unit.TheVariants as unit
use Rattle.mbe_grammar.specs.Kinds.{kind_of, kind_of_char}
use Rattle.mbe_grammar.specs.Positions.{Position}
use Rattle.mbe_grammar.specs.Units.{first_unit}

-- what an expression with this knowledge does before a unit of that kind
abbrev pub glance_by : Known → (kind : ℕ) → Glance
glance_by it kind = if bit_at it.fails kind == 1 then glance.Fails else (if bit_at it.idles kind == 1 then glance.Idles else glance.Open)

abbrev pub glance_in : Option Known → (kind : ℕ) → Glance
glance_in None kind = glance.Open
glance_in (Some it) kind = glance_by it kind

-- what the expression at that index of the table does
abbrev pub glance_at : List Known → (at : ℕ) → Position → Glance
glance_at known at from = glance_in (slice_get known at) (kind_of (first_unit from.rest) % 64)

-- the kinds before which the expression at that index fails, and those before which it takes nothing
abbrev pub fails_in : Option Known → ℕ
fails_in None = 0
fails_in (Some it) = it.fails

abbrev pub idles_in : Option Known → ℕ
idles_in None = 0
idles_in (Some it) = it.idles

abbrev pub fails_of : List Known → (at : ℕ) → ℕ
fails_of known at = fails_in (slice_get known at)

abbrev pub idles_of : List Known → (at : ℕ) → ℕ
idles_of known at = idles_in (slice_get known at)

-- kinds as the bits of one number
abbrev pub bits : (kinds : List ℕ) → ℕ
bits [] = 0
bits (kind ∷ kinds) = bit_or (2 ^ (kind % 64)) (bits kinds)

-- the kinds of these puncts, and of glued puncts that begin with them
abbrev pub bits_of : (chars : List ℕ) → ℕ
bits_of chars = bits (map kind_of_char chars)

-- the kinds of words that an expression begins with: of names, of path roots such as `self`, of `true` and
-- `false`, and of the keywords that begin one
abbrev pub first_words : List ℕ
first_words = 7 ∷ 8 ∷ 9 ∷ 10 ∷ 12 ∷ 13 ∷ 14 ∷ 15 ∷ 19 ∷ 20 ∷ 21 ∷ 22 ∷ 23 ∷ 25 ∷ 26 ∷ 29 ∷ 30 ∷ 32 ∷ 35 ∷ []

-- the kinds of the units that pass a test; any unit has a kind other than 0, the end's
abbrev pub begins : Test → ℕ
begins (test.Is it) = 2 ^ (kind_of it % 64)
begins (test.Front char) = 2 ^ (kind_of_char char % 64)
begins test.Any = 2 ^ 64 - 2
begins test.Name = bits (7 ∷ 8 ∷ [])
begins test.PathSegment = bits (7 ∷ 8 ∷ 9 ∷ [])
begins test.TruthValue = bits (10 ∷ [])
begins test.Literal = bits (2 ∷ [])
begins test.Text = bits (2 ∷ [])
begins test.Number = bits (2 ∷ [])
begins test.Delimited = bits (3 ∷ 4 ∷ 5 ∷ [])
begins test.Opaque = bits (6 ∷ [])
begins (test.Holding kind name) = 2 ^ (kind_of (unit.Subtree kind) % 64)
begins (test.OpaqueHolding name) = bits (6 ∷ [])
begins test.BinaryOperator = bits_of (codes "+-*/%^&|<>=!")
begins test.AssignmentOperator = bits_of (codes "=+-*/%^&|<>")
begins test.BeginsExpression = bit_or (bits (1 ∷ 2 ∷ 3 ∷ 5 ∷ 6 ∷ [])) (bit_or (bits first_words) (bits_of (codes "!-*|&<#.:")))

-- the kinds whose units all pass the rule's test; given only for two tests
abbrev pub always_passes : Option Rule → ℕ
always_passes (Some (rule.Unit test.PathSegment)) = begins test.PathSegment
always_passes (Some (rule.Unit test.Any)) = begins test.Any
always_passes _ = 0

-- all bits of a number are those of another
abbrev pub is_within : ℕ → ℕ → Bool
is_within a b = bit_and a b == a

-- what is known is right for the expression at that index
abbrev pub is_right_rule : List Known → List Rule → (at : ℕ) → Rule → Bool
is_right_rule known rules at rule.Empty = fails_of known at == 0
is_right_rule known rules at (rule.Unit wanted) = bit_and (fails_of known at) (begins wanted) == 0 && (idles_of known at == 0)
is_right_rule known rules at (rule.Name other) = is_within (fails_of known at) (fails_of known other) && is_within (idles_of known at) (idles_of known other)
is_right_rule known rules at (rule.Sequence first second) =
    is_within (fails_of known at) (bit_or (fails_of known first) (bit_and (idles_of known first) (fails_of known second)))
    && is_within (idles_of known at) (bit_and (idles_of known first) (idles_of known second))
is_right_rule known rules at (rule.Choice first other) =
    is_within (fails_of known at) (bit_and (fails_of known first) (fails_of known other))
    && is_within (idles_of known at) (bit_or (idles_of known first) (bit_and (fails_of known first) (idles_of known other)))
is_right_rule known rules at (rule.ZeroOrMore part) = fails_of known at == 0 && is_within (idles_of known at) (fails_of known part)
is_right_rule known rules at (rule.Not part) =
    is_within (fails_of known at) (bit_or (idles_of known part) (always_passes (slice_get rules part))) && is_within (idles_of known at) (fails_of known part)

-- it is right for each of these rules, which are those of a table from an index on, and nothing is known of others
abbrev pub are_right : List Known → (rules : List Rule) → (at : ℕ) → List Rule → Bool
are_right known rules at [] = nat_lt (length known) (suc at)
are_right known rules at (this ∷ others) = is_right_rule known rules at this && are_right known rules (suc at) others
