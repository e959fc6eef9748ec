-- How often a repetition is filled, counted part by part.
use Rattle.std.specs.Prelude.{ℕ, zero, suc, List, [], ◌∷◌, Result, Err, nat_eq, if◌then◌else◌}
use Rattle.mbe_pattern.specs.declared.pattern.RepeatKind.{RepeatKind}
use Rattle.mbe_pattern.specs.declared.pattern.RepeatKind.TheVariants.{ZeroOrMore}
use Rattle.mbe_rules.specs.declared.counting.Count.{Count}
use Rattle.mbe_rules.specs.declared.counting.Count.TheVariants.{Unknown, Same, Differ}
use Rattle.mbe_rules.specs.Transcribing.{TranscribeFault, nothing_repeats, lengths_differ, enough}
use Rattle.mbe_rules.specs.Parts.{Bit, uses, same, enter, leave, begin, close}
use Rattle.mbe_rules.specs.Rounds.{Seen, trees, rounds}

-- one more variable, which has that many rounds
abbrev pub counted_with : ℕ → Count → Count
counted_with n Unknown = Same n
counted_with n (Same m) = if nat_eq n m then Same m else Differ
counted_with n Differ = Differ

-- several more variables, in order
abbrev pub counted_all : List ℕ → Count → Count
counted_all [] count = count
counted_all (n ∷ others) count = counted_all others (counted_with n count)

-- the number of rounds that is seen, or none
abbrev pub counts_seen : Seen → List ℕ
counts_seen (trees its) = []
counts_seen (rounds n) = n ∷ []

-- how often a repetition of that kind is filled
abbrev pub rounds_by : (at : ℕ) → RepeatKind → Count → Result ℕ TranscribeFault
rounds_by at kind Unknown = Err (nothing_repeats at)
rounds_by at kind (Same n) = enough at kind n
rounds_by at kind Differ = Err (lengths_differ at)

-- the variables used before the end of the repetition, if that many inner repetitions are open
abbrev pub uses_before : (open_count : ℕ) → List Bit → List ℕ
uses_before n [] = []
uses_before n (uses at variable less_follows ∷ others) = variable ∷ uses_before n others
uses_before n (same it ∷ others) = uses_before n others
uses_before n (enter delimiter ∷ others) = uses_before n others
uses_before n (leave ∷ others) = uses_before n others
uses_before n (begin at ∷ others) = uses_before (suc n) others
uses_before zero (close separator kind ∷ others) = []
uses_before (suc n) (close separator kind ∷ others) = uses_before n others

-- the kind of that repetition
abbrev pub kind_before : (open_count : ℕ) → List Bit → RepeatKind
kind_before n [] = ZeroOrMore
kind_before n (uses at variable less_follows ∷ others) = kind_before n others
kind_before n (same it ∷ others) = kind_before n others
kind_before n (enter delimiter ∷ others) = kind_before n others
kind_before n (leave ∷ others) = kind_before n others
kind_before n (begin at ∷ others) = kind_before (suc n) others
kind_before zero (close separator kind ∷ others) = kind
kind_before (suc n) (close separator kind ∷ others) = kind_before n others

-- the parts after it
abbrev pub behind_close : (open_count : ℕ) → List Bit → List Bit
behind_close n [] = []
behind_close n (uses at variable less_follows ∷ others) = behind_close n others
behind_close n (same it ∷ others) = behind_close n others
behind_close n (enter delimiter ∷ others) = behind_close n others
behind_close n (leave ∷ others) = behind_close n others
behind_close n (begin at ∷ others) = behind_close (suc n) others
behind_close zero (close separator kind ∷ others) = others
behind_close (suc n) (close separator kind ∷ others) = behind_close n others
