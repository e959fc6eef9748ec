-- Which part of a pattern an instruction of its program is, and which parts wait where runs are stuck.
use Rattle.std.specs.Prelude.{◌≡◌, ◌+◌, ◌-◌, ℕ, suc, List, [], ◌∷◌, length, slice_index_or}
use Rattle.mbe_matcher.specs.Parts.{place_count, separator_count}
use Rattle.mbe_matcher.specs.Labels as label
use Rattle.mbe_matcher.specs.Marks.{Note}
use Rattle.mbe_matcher.specs.Places.{IsStuck, left_in}
use Rattle.mbe_pattern.specs.Patterns.{Pattern, nothing, variable, token, subtree, repetition}
use Rattle.tt.specs.Forest.{Forest, size}
use Rattle.tt.specs.Types.Leaf.{Leaf}
use Rattle.mbe_program.specs.Program.{Instruction, take, pass, enter, leave, begin, close}
use Rattle.mbe_program.specs.Runs.{Goes}

-- the number of a separator, if there is one, before those of a round
abbrev pub separator_part : (separator : List Leaf) → (number : ℕ) → (round : List ℕ) → List ℕ
separator_part [] number round = round
separator_part (it ∷ others) number round = number ∷ round

-- the numbers of the parts that a pattern's instructions are, before others; its first part has that number. Where a repetition begins or a
-- round closes is no part, and the number is 0
abbrev pub parts_before : (at : ℕ) → Pattern → (behind : List ℕ) → List ℕ
parts_before at nothing behind = behind
parts_before at (variable it others) behind = at ∷ parts_before (suc at) others behind
parts_before at (token its others) behind = at ∷ parts_before (suc at) others behind
parts_before at (subtree kind inner others) behind =
    at ∷ parts_before (suc at) inner ((suc at + place_count inner) ∷ parts_before (suc (suc at + place_count inner)) others behind)
parts_before at (repetition inner separator op others) behind =
    0 ∷ separator_part separator (at + place_count inner)
    (parts_before at inner (0 ∷ parts_before (at + place_count inner + separator_count separator) others behind))

-- the numbers beside the program of a whole pattern; its end is the last part
abbrev pub parts_of : Pattern → List ℕ
parts_of pattern = parts_before 0 pattern (place_count pattern ∷ [])

-- the number beside the place with so many instructions left
abbrev pub part_at : (parts : List ℕ) → (left : ℕ) → ℕ
part_at parts left = slice_index_or parts (length parts - left) 0

-- the trees are not what the instruction requires; where a repetition begins or a round closes, nothing is required
abbrev pub IsStuckAt : Instruction → (trees : Forest) → Type 0
IsStuckAt (take which) trees = IsStuck (label.take which) trees
IsStuckAt (pass its) trees = IsStuck (label.same its) trees
IsStuckAt (enter kind) trees = IsStuck (label.enter kind) trees
IsStuckAt leave trees = IsStuck label.leave trees
IsStuckAt (begin op first behind) trees = ⊥
IsStuckAt (close op again) trees = ⊥

-- the part of that number is at a place, that many tokens are left, and the trees there are not what it requires
abbrev pub HasMissed : (parts : List ℕ) → (left number : ℕ) → (place : List Instruction) → (levels : List Forest) → Type 0
HasMissed parts left number [] levels = ⊥
HasMissed parts left number (it ∷ rest) [] = ⊥
HasMissed parts left number (it ∷ rest) (trees ∷ outer) = (part_at parts (suc (length rest)) ≡ number) × (left ≡ left_in (trees ∷ outer)) × IsStuckAt it trees

-- some steps of the program come to the part of that number at a flat place of an input, and the trees there are not what it requires
abbrev pub IsStuckRun : (program : List Instruction) → (parts : List ℕ) → (input : Forest) → (at number : ℕ) → Type 0
IsStuckRun program parts input at number =
    (left : ℕ) × (at + left ≡ size input) × (steps : ℕ) × (notes : List Note) × Goes program (HasMissed parts left number) steps program (input ∷ []) notes
