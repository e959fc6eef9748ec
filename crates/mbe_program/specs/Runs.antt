-- The runs of a program through an input.
use Rattle.std.specs.Prelude.{◌≡◌, ◌⊎◌, ℕ, zero, suc, true, List, [], ◌∷◌, length}
use Rattle.mbe_matcher.specs.Fragments.{reach, taken}
use Rattle.mbe_matcher.specs.Marks.{Note, taken as took_by, begun, ended}
use Rattle.mbe_matcher.specs.Places.{front, IsEnded, TakesFront, passed, entered, left}
use Rattle.mbe_pattern.specs.Patterns.{may_be_none, may_be_more}
use Rattle.mbe_pattern.specs.Units.{IsUnitLike, IsNodeOf}
use Rattle.tt.specs.Forest.{Forest}
use Rattle.mbe_program.specs.Program.{Instruction, take, pass, enter, leave, begin, close, place_at}

-- this note comes first, and the notes after it are wanted
abbrev pub Notes : Note → (Wanted : List Note → Type 0) → (notes : List Note) → Type 0
Notes it Wanted notes = (more : List Note) × (notes ≡ it ∷ more) × Wanted more

module _ (program : List Instruction) (Last : (place : List Instruction) → (levels : List Forest) → Type 0) where
  -- so many steps lead from a place, before levels of which the innermost comes first, to a last place and the levels that are left there,
  -- and make these notes. A variable notes the trees that it takes, a round that it begins, and a repetition that it has no further round
  abbrev pub Goes : (steps : ℕ) → (place : List Instruction) → (levels : List Forest) → (notes : List Note) → Type 0
  Goes zero place levels notes = Last place levels × (notes ≡ [])
  Goes (suc n) [] levels notes = ⊥
  Goes (suc n) (take which ∷ rest) levels notes =
      TakesFront which levels
      × Notes (took_by (length rest) (taken which.fragment (front levels))) (Goes n rest (passed (reach which.fragment (front levels)) levels)) notes
  Goes (suc n) (pass its ∷ rest) levels notes = IsUnitLike its (front levels) × Goes n rest (passed (length its) levels) notes
  Goes (suc n) (enter kind ∷ rest) levels notes = IsNodeOf kind (front levels) × Goes n rest (entered levels) notes
  Goes (suc n) (leave ∷ rest) levels notes = IsEnded levels × Goes n rest (left levels) notes
  Goes (suc n) (begin op first behind ∷ rest) levels notes =
      Notes (begun behind) (Goes n (place_at program first) levels) notes
      ⊎ ((may_be_none op ≡ true) × Notes (ended behind) (Goes n (place_at program behind) levels) notes)
  Goes (suc n) (close op again ∷ rest) levels notes =
      ((may_be_more op ≡ true) × Notes (begun (length rest)) (Goes n (place_at program again) levels) notes)
      ⊎ Notes (ended (length rest)) (Goes n rest levels) notes

-- all instructions are done, and all of the input is passed
abbrev pub IsOver : (place : List Instruction) → (levels : List Forest) → Type 0
IsOver place levels = (place ≡ []) × (levels ≡ [])

-- a run from a place through all that is left of the levels
abbrev pub Runs : (program : List Instruction) → (place : List Instruction) → (levels : List Forest) → (notes : List Note) → Type 0
Runs program place levels notes = (steps : ℕ) × Goes program IsOver steps place levels notes

-- a run of the program through all of an input
abbrev pub IsRun : (program : List Instruction) → (input : Forest) → (notes : List Note) → Type 0
IsRun program input notes = Runs program program (input ∷ []) notes
