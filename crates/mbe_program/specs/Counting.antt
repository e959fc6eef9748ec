-- The numbers beside a program, found from its instructions alone, from the first to the last.
use Rattle.std.specs.Prelude.{◌-◌, ℕ, suc, Bool, false, List, [], ◌∷◌, ◌++◌, length, nat_lt, set, if◌then◌else◌}
use Rattle.mbe_program.specs.declared.counting.Counting.{Counting}
use Rattle.mbe_program.specs.Program.{Instruction, take, pass, enter, leave, begin, close, place_at}

-- the numbers so far, the number of the next part, and whether the next instruction is the separator of a repetition that begins before it
pub record Count : Type 0 where
  pub numbers : List ℕ
  pub next : ℕ
  pub separates : Bool

-- with a part
abbrev pub with_part : Count → Count
with_part its = record { numbers = its.numbers ++ its.next ∷ []; next = suc its.next; separates = false }

-- with an instruction that has no number yet, or never
abbrev pub with_none : (separates : Bool) → Count → Count
with_none separates its = record { numbers = its.numbers ++ 0 ∷ []; next = its.next; separates = separates }

-- with the end of a round behind a separator at that index, which has the next number
abbrev pub with_separator : (index : ℕ) → Count → Count
with_separator index its = record { numbers = set its.numbers index its.next ++ 0 ∷ []; next = suc its.next; separates = false }

-- a repetition begins there, and its first round is behind the place with so many instructions left
abbrev pub starts_later : Instruction → (left : ℕ) → Bool
starts_later (take which) left = false
starts_later (pass its) left = false
starts_later (enter kind) left = false
starts_later leave left = false
starts_later (begin op first behind) left = nat_lt first left
starts_later (close op again) left = false

-- it does so at that place: a separator is there
abbrev pub is_separated : (place : List Instruction) → (left : ℕ) → Bool
is_separated [] left = false
is_separated (it ∷ rest) left = starts_later it left

-- one instruction more, behind which so many are left
abbrev pub counted_on : (program : List Instruction) → Instruction → (behind : ℕ) → Count → Count
counted_on program (take which) behind its = with_part its
counted_on program (pass leaves) behind its = if its.separates then with_none false its else with_part its
counted_on program (enter kind) behind its = with_part its
counted_on program leave behind its = with_part its
counted_on program (begin op first after) behind its = with_none (nat_lt first behind) its
counted_on program (close op again) behind its =
    if is_separated (place_at program (suc again)) again then with_separator (length program - again) its else with_none false its

-- all instructions from a place on
abbrev pub counted : (program : List Instruction) → (place : List Instruction) → Count → Count
counted program [] its = its
counted program (it ∷ rest) its = counted program rest (counted_on program it (length rest) its)

-- nothing is counted
abbrev pub nothing_counted : Count
nothing_counted = record { numbers = []; next = 0; separates = false }

-- a count of the code
abbrev pub count_of : Counting → Count
count_of its = record { numbers = its.numbers.items; next = its.next; separates = its.separates }
