-- What was read of a pattern, in the terms of its definitions.
use Rattle.std.specs.Prelude.{◌≡◌, ◌<◌, ◌+◌, ℕ, Option, None, Some}
use Rattle.tt.specs.Forest.{size}
use Rattle.tt.specs.Iters.{rest_of}
use Rattle.mbe_pattern.specs.declared.parts.Part.{Part}
use Rattle.mbe_pattern.specs.declared.parts.Part.TheVariants as part
use Rattle.mbe_pattern.specs.declared.dollar.Dollar.{Dollar}
use Rattle.mbe_pattern.specs.declared.dollar.Dollar.TheVariants as dollar
use Rattle.mbe_pattern.specs.declared.dollar.Tail.{Tail}
use Rattle.mbe_pattern.specs.Patterns.{Pattern}
use Rattle.mbe_pattern.specs.Patterns as pattern
use Rattle.mbe_pattern.specs.Placed.{pattern_of}
use Rattle.mbe_pattern.specs.Spelling as spelling

-- a tail
abbrev pub tail_of : Tail → spelling.Tail
tail_of tail = record { separator = tail.separator.items; kind = tail.kind }

-- what a `$` begins
abbrev pub dollar_of : Dollar → spelling.Dollar
dollar_of (dollar.Variable it) = spelling.variable it
dollar_of (dollar.Repetition tail) = spelling.repetition (tail_of tail)
dollar_of dollar.Token = spelling.token
dollar_of dollar.Nothing = spelling.nothing

-- the pattern begins with the part, and the others follow it
abbrev pub IsPart : Pattern → Part → (others : Pattern) → Type 0
IsPart whole part.End others = whole ≡ pattern.nothing
IsPart whole (part.Variable it) others = whole ≡ pattern.variable it others
IsPart whole (part.Token leaves) others = whole ≡ pattern.token leaves.items others
IsPart whole (part.Subtree kind inner) others = whole ≡ pattern.subtree kind (pattern_of (rest_of inner)) others
IsPart whole (part.Repetition inner tail) others = whole ≡ pattern.repetition (pattern_of (rest_of inner)) tail.separator.items tail.kind others

-- how many tokens a part holds, if there is a part
abbrev pub held_size : Part → Option ℕ
held_size part.End = None
held_size (part.Variable it) = Some 0
held_size (part.Token leaves) = Some 0
held_size (part.Subtree kind inner) = Some (size (rest_of inner))
held_size (part.Repetition inner tail) = Some (size (rest_of inner))

-- if there is a part, what it holds and what is left are less than the whole
abbrev pub AreLess : (held : Option ℕ) → (left whole : ℕ) → Type 0
AreLess None left whole = Unit {0}
AreLess (Some held) left whole = held + left < whole
