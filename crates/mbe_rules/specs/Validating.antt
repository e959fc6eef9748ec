-- What is wrong with a template, by its parts from the last to the first.
use Rattle.std.specs.Prelude.{ℕ, List, [], ◌∷◌, length, reverse, Option, None}
use Rattle.mbe_matcher.specs.Grouping.{Where}
use Rattle.mbe_rules.specs.declared.transcribe_error.TranscribeError.{TranscribeError}
use Rattle.mbe_rules.specs.declared.validate.Validation as rust
use Rattle.mbe_rules.specs.Faults.{or_else, use_fault, round_fault}
use Rattle.mbe_rules.specs.Parts.{Bit, uses, same, enter, leave, begin, close}
use Rattle.mbe_rules.specs.Templates.{depth_of, greater}

-- the first fault; and for each open repetition, the innermost first, the greatest depth of a variable that it uses
pub record Validation : Type 0 where
  pub fault : Option TranscribeError
  pub depths : List ℕ

-- the innermost open repetition uses a variable of that depth
abbrev pub raised : ℕ → List ℕ → List ℕ
raised depth [] = []
raised depth (it ∷ outer) = greater depth it ∷ outer

-- a use of a variable of that depth
abbrev pub used_with : (at depth : ℕ) → Validation → Validation
used_with at depth validated =
    record { fault = or_else (use_fault at (length validated.depths) depth) validated.fault; depths = raised depth validated.depths }

-- the beginning of the innermost open repetition
abbrev pub begun : (at : ℕ) → List ℕ → Option TranscribeError → Validation
begun at [] fault = record { fault = fault; depths = [] }
begun at (it ∷ outer) fault = record { fault = or_else (round_fault at (length outer) it) fault; depths = raised it outer }

-- one more part; the parts come from the last to the first
abbrev pub validated_with : List Where → Bit → Validation → Validation
validated_with variables (uses at variable less_follows) validated = used_with at (depth_of variables variable) validated
validated_with variables (same it) validated = validated
validated_with variables (enter delimiter) validated = validated
validated_with variables leave validated = validated
validated_with variables (begin at) validated = begun at validated.depths validated.fault
validated_with variables (close separator kind) validated = record { fault = validated.fault; depths = 0 ∷ validated.depths }

-- no part was judged
abbrev pub nothing_validated : Validation
nothing_validated = record { fault = None; depths = [] }

-- all parts
abbrev pub validated_of : List Where → List Bit → Validation
validated_of variables [] = nothing_validated
validated_of variables (it ∷ others) = validated_with variables it (validated_of variables others)

-- what was judged, the innermost repetition first
abbrev pub validated_by : rust.Validation → Validation
validated_by validated = record { fault = validated.fault; depths = reverse validated.depths.items }
