-- Whole files, by Rust's grammar.
use Rattle.std.specs.Prelude.{Bool, Option, None, Some}
use Rattle.tt.specs.Forest.{Forest}
use Rattle.tt.specs.Views.{trees_of}
use Rattle.mbe_grammar.specs.declared.file.ParsedFile.{ParsedFile}
use Rattle.mbe_grammar.specs.declared.file.ParsedFile.TheVariants as parsed
use Rattle.mbe_grammar.specs.declared.rule.Rule.{Rule}
use Rattle.mbe_grammar.specs.declared.rule.Rule.TheVariants as rule
use Rattle.mbe_grammar.specs.declared.test.Test.{Test}
use Rattle.mbe_grammar.specs.Derivations.{Derives, Refuses, IsJudged, place, whole}
use Rattle.mbe_grammar.specs.Names.{items, start}
use Rattle.mbe_grammar.specs.Positions.{first_position}
use Rattle.mbe_grammar.specs.Table.{rust_rules}
use Rattle.mbe_grammar.specs.Trying.{IsFarthest}

-- the trees are a file, with this derivation; or they are not, and this is the first place in reading order where trees are refused, with
-- the farthest token that its name tries there and what it wants
abbrev pub IsParsed : Forest → ParsedFile → Type 0
IsParsed trees (parsed.Whole events) = Derives rust_rules (start items) trees events.items
IsParsed trees (parsed.Refused error) =
    Refuses rust_rules (whole (start items) trees) (place error.level)
    × IsFarthest rust_rules error.level.name (first_position (trees_of error.level.trees)) error.wanted.passed error.wanted.units.items

-- whether the trees are a file
abbrev pub IsFileAnswer : Forest → Bool → Type 0
IsFileAnswer trees answer = IsJudged rust_rules (start items) trees answer

-- the test of a unit rule
abbrev pub test_in : Option Rule → Option Test
test_in (Some (rule.Unit wanted)) = Some wanted
test_in _ = None
