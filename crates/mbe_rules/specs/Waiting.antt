-- Which parts of the patterns of a macro wait at a flat place of an input.
use Rattle.std.specs.Prelude.{◌≡◌, ℕ, zero, suc, List, [], ◌∷◌, ◌++◌, map, Option, None}
use Rattle.tt.specs.Forest.{Forest}
use Rattle.mbe_matcher.specs.Labels.{Label}
use Rattle.mbe_matcher.specs.Parts.{part_of}
use Rattle.mbe_matcher.specs.Waiting.{AreWaiting}
use Rattle.mbe_rules.specs.declared.macro_rules.ArmPart.{ArmPart}
use Rattle.mbe_rules.specs.Arms.{Arm}

-- a part of the arm of that number
abbrev pub in_arm : (arm : ℕ) → (part : ℕ) → ArmPart
in_arm arm part = record { arm = arm; part = part }

-- these are the parts that wait there, arm by arm; the first of these arms has that number
abbrev pub AreWaitingIn : List Arm → (number : ℕ) → (input : Forest) → (at : ℕ) → List ArmPart → Type 0
AreWaitingIn [] number input at parts = parts ≡ []
AreWaitingIn (arm ∷ others) number input at parts =
    (own : List ℕ) × (more : List ArmPart) × (parts ≡ map (in_arm number) own ++ more) × AreWaiting arm.pattern input at own
    × AreWaitingIn others (suc number) input at more

-- what the part of that number of the arm of that number requires
abbrev pub part_in : List Arm → (arm : ℕ) → (part : ℕ) → Option Label
part_in [] which part = None
part_in (arm ∷ others) zero part = part_of arm.pattern part
part_in (arm ∷ others) (suc which) part = part_in others which part
