-- What the part of a number requires, found in a program and the numbers beside it.
use Rattle.std.specs.Prelude.{ℕ, List, [], ◌∷◌, Option, Some, None, nat_eq, if◌then◌else◌}
use Rattle.std.specs.Option.{option_or}
use Rattle.mbe_matcher.specs.Labels.{Label}
use Rattle.mbe_matcher.specs.Labels as label
use Rattle.mbe_program.specs.Program.{Instruction, take, pass, enter, leave, begin, close}
use Rattle.mbe_program.specs.declared.part.Part.{Part}
use Rattle.mbe_program.specs.declared.part.Part.TheVariants as part

-- what a part requires
abbrev pub label_of : Part → Label
label_of (part.Take which) = label.take which.now
label_of (part.Same its) = label.same its.now
label_of (part.Enter kind) = label.enter kind
label_of part.Leave = label.leave

-- what an instruction requires; where a repetition begins or a round closes is no part
abbrev pub required_by : Instruction → Option Label
required_by (take which) = Some (label.take which)
required_by (pass its) = Some (label.same its)
required_by (enter kind) = Some (label.enter kind)
required_by leave = Some label.leave
required_by (begin op first behind) = None
required_by (close op again) = None

-- what is required, if the number beside it is that one
abbrev pub required_at : (required : Option Label) → (beside number : ℕ) → Option Label
required_at required beside number = if nat_eq beside number then required else None

-- what the first part with that number beside it requires
abbrev pub labelled : (program : List Instruction) → (numbers : List ℕ) → (number : ℕ) → Option Label
labelled [] numbers number = None
labelled (it ∷ rest) [] number = None
labelled (it ∷ rest) (beside ∷ others) number = option_or (required_at (required_by it) beside number) (labelled rest others number)
