-- What a session does with the bytes that it gets.
use Rattle.std.specs.Prelude.{◌≡◌, ℕ, ◌+◌, ◌-◌, ◌^◌, min, true, false, List, [], ◌∷◌, ◌++◌, length, None, Some, Ok, Err, Option, Result}
use Rattle.std.specs.List.{All}
use Rattle.std.specs.Io.KnownBytes.{Appends, Keeps}
use Rattle.app_console.specs.declared.outcome.End.{End}
use Rattle.app_console.specs.declared.outcome.End.TheVariants.{Clean, BadLine}
use Rattle.app_console.specs.declared.outcome.RunFault.{RunFault}
use Rattle.app_console.specs.declared.outcome.RunFault.TheVariants.{Read, Write, Memory}
use Rattle.app_console.specs.State.{State}
use Rattle.app_console.specs.Stage.{Stage}
use Rattle.app_language.specs.Reading.{IsOneLine}
use Rattle.app_console.specs.Lines.{lines_of, ended_lines}
use Rattle.app_language.specs.Command.{IsNoCommand}
use Rattle.app_console.specs.Run.{Answered, next_number, bad_line}

-- each line that ends in the bytes was answered, and what comes after them has begun
pub record Follows (old : Stage) (bytes : List ℕ) (new : Stage) : Type 0 where
  pub lines : List (List ℕ)
  pub text : List ℕ
  pub reported : Appends old.reported new.reported text
  pub answered : Answered old.machine lines text new.machine
  pub cut : old.begun ++ bytes ≡ ended_lines lines ++ new.begun
  pub whole : All IsOneLine lines
  pub begun : IsOneLine new.begun
  pub counted : new.count ≡ min (old.count + length lines) (2 ^ 64 - 1)

-- the lines before a bad one were answered, and then its number was put out
pub record Halts (old : Stage) (bytes : List ℕ) (number : ℕ) (new : Stage) : Type 0 where
  pub lines : List (List ℕ)
  pub bad : List ℕ
  pub rest : List ℕ
  pub text : List ℕ
  pub state : State
  pub reported : Appends old.reported new.reported (text ++ bad_line number)
  pub answered : Answered old.machine lines text state
  pub cut : old.begun ++ bytes ≡ ended_lines lines ++ (bad ++ 10 ∷ rest)
  pub whole : All IsOneLine lines
  pub one_line : IsOneLine bad
  pub is_bad : IsNoCommand bad
  pub counted : number ≡ next_number (old.count + length lines)

-- the lines before the rest were answered
pub record Breaks (old : Stage) (bytes rest : List ℕ) (new : Stage) : Type 0 where
  pub lines : List (List ℕ)
  pub text : List ℕ
  pub state : State
  pub reported : Appends old.reported new.reported text
  pub answered : Answered old.machine lines text state
  pub cut : old.begun ++ bytes ≡ ended_lines lines ++ rest
  pub whole : All IsOneLine lines

-- one line is answered, or is no command and its number is put out
abbrev pub Answers : Stage → List ℕ → Result (Option ℕ) RunFault → Stage → Type 0
Answers old line (Ok None) new =
    ((text : List ℕ) × Appends old.reported new.reported text × Answered old.machine (line ∷ []) text new.machine)
    × (new.count ≡ next_number old.count) × (new.failed ≡ false)
Answers old line (Ok (Some number)) new =
    Appends old.reported new.reported (bad_line number) × IsNoCommand line × (number ≡ next_number old.count) × (new.failed ≡ false)
Answers old line (Err Memory) new = Keeps old.reported new.reported × (new.failed ≡ false)
Answers old line (Err Write) new = new.failed ≡ true
Answers old line (Err Read) new = ⊥

-- the effect of some bytes
abbrev pub Feeds : Stage → List ℕ → Result (Option ℕ) RunFault → Stage → Type 0
Feeds old bytes (Ok None) new = Follows old bytes new × (new.failed ≡ false)
Feeds old bytes (Ok (Some number)) new = Halts old bytes number new × (new.failed ≡ false)
Feeds old bytes (Err Memory) new = ((rest : List ℕ) × Breaks old bytes rest new) × (new.failed ≡ false)
Feeds old bytes (Err Write) new = new.failed ≡ true
Feeds old bytes (Err Read) new = ⊥

-- the effect of the end of the input: the begun line, if there is one, is answered, or is no command
abbrev pub Finishes : Stage → Result End RunFault → Stage → Type 0
Finishes old (Ok Clean) new =
    ((text : List ℕ) × Appends old.reported new.reported text × Answered old.machine (lines_of old.begun) text new.machine) × (new.failed ≡ false)
Finishes old (Ok (BadLine number)) new =
    Appends old.reported new.reported (bad_line number) × (lines_of old.begun ≡ old.begun ∷ []) × IsNoCommand old.begun
    × (number ≡ next_number old.count) × (new.failed ≡ false)
Finishes old (Err Memory) new = Keeps old.reported new.reported × (new.failed ≡ false)
Finishes old (Err Write) new = new.failed ≡ true
Finishes old (Err Read) new = ⊥
