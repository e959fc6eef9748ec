-- What a reading binds, as a flat list of marks.
use Rattle.std.specs.Prelude.{ℕ, zero, suc, ◌+◌, List, [], ◌∷◌, length}
use Rattle.tt.specs.Forest.{Forest}
use Rattle.tt.specs.Views.{trees_of}
use Rattle.mbe_matcher.specs.declared.mark.Mark.{Mark}
use Rattle.mbe_matcher.specs.declared.mark.Mark.TheVariants as mark
use Rattle.mbe_pattern.specs.Patterns.{Pattern, nothing, variable, token, subtree, repetition}
use Rattle.mbe_matcher.specs.Readings.{Reading, done, took, held, round, over, trees_taken, inside_of, more_of}

-- the variable of that number took these trees, or a round of the repetition of that number begins, or it has no further round
pub data Note : Type 0 where
  taken : (number : ℕ) → Forest → Note
  begun : (number : ℕ) → Note
  ended : (number : ℕ) → Note

-- the note of a mark
abbrev pub note_of : Mark → Note
note_of (mark.Took number trees) = taken number (trees_of trees)
note_of (mark.Round number) = begun number
note_of (mark.Over number) = ended number

-- how many steps a separator of that many leaves has
abbrev pub pass_count : ℕ → ℕ
pass_count zero = 0
pass_count (suc n) = 1

-- how many steps a pattern has: one for a variable or a token, and two for the ends of a subtree or a repetition
abbrev pub step_count : Pattern → ℕ
step_count nothing = 0
step_count (variable it others) = suc (step_count others)
step_count (token its others) = suc (step_count others)
step_count (subtree kind inner others) = suc (step_count inner + suc (step_count others))
step_count (repetition inner separator op others) = suc (pass_count (length separator) + (step_count inner + suc (step_count others)))

-- the notes of rounds, given the notes of one round and of the parts after the rounds
abbrev pub notes_of_rounds : (number : ℕ) → (One : Reading → List Note → List Note) → (Behind : Reading → List Note) → Reading → List Note
notes_of_rounds number One Behind done = []
notes_of_rounds number One Behind (took trees more) = []
notes_of_rounds number One Behind (held inside more) = []
notes_of_rounds number One Behind (round this others) = begun number ∷ One this (notes_of_rounds number One Behind others)
notes_of_rounds number One Behind (over more) = ended number ∷ Behind more

-- the notes of a reading, before others; the number of a part is how many steps follow it
abbrev pub notes_before : Pattern → (behind : ℕ) → Reading → (left : List Note) → List Note
notes_before nothing behind reading left = left
notes_before (variable it others) behind reading left =
    taken (step_count others + behind) (trees_taken reading) ∷ notes_before others behind (more_of reading) left
notes_before (token its others) behind reading left = notes_before others behind reading left
notes_before (subtree kind inner others) behind reading left =
    notes_before inner (suc (step_count others + behind)) (inside_of reading) (notes_before others behind (more_of reading) left)
notes_before (repetition inner separator op others) behind reading left =
    notes_of_rounds (step_count others + behind) (notes_before inner (suc (step_count others + behind))) (λ more. notes_before others behind more left) reading

-- the notes of a reading of a whole pattern, which its end follows as one step
abbrev pub notes_of : Pattern → Reading → List Note
notes_of pattern reading = notes_before pattern 1 reading []
