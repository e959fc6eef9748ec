-- What a run of the program read and wrote.
use Rattle.std.specs.Prelude.{◌≡◌, ◌≤◌, ℕ, ◌+◌, ◌-◌, ◌^◌, min, Bool, true, false, List, [], ◌∷◌, ◌++◌, length, codes, IfSome, Ok, Err, Option, Result}
use Rattle.std.specs.List.{All, AllZip, concat}
use Rattle.std.specs.Fmt.{decimal}
use Rattle.std.specs.Io.KnownBytes.{Appends, Consumes, IsAtEnd}
use Rattle.app_language.specs.declared.command.Command.{Command}
use Rattle.app_console.specs.declared.outcome.End.{End}
use Rattle.app_console.specs.declared.outcome.End.TheVariants.{Clean, BadLine}
use Rattle.app_console.specs.declared.outcome.RunFault.{RunFault}
use Rattle.app_console.specs.declared.outcome.RunFault.TheVariants.{Read, Write, Memory}
use Rattle.app_console.specs.declared.output.TheConstants.{BLOCK}
use Rattle.app_console.specs.State.{State, start}
use Rattle.app_language.specs.Command.{StandsFor, IsNoCommand}
use Rattle.app_console.specs.Answer.{line}
use Rattle.app_console.specs.Machine.{Run}
use Rattle.app_language.specs.Reading.{IsOneLine}
use Rattle.app_console.specs.Lines.{lines_of, ended_lines, EndsLine}

-- each line is a command, and the text is the answers of a run of the machine to them, from old to new
pub record Answered (old : State) (lines : List (List ℕ)) (text : List ℕ) (new : State) : Type 0 where
  pub commands : List Command
  pub answers : List (List ℕ)
  pub each : AllZip StandsFor lines commands
  pub run : Run old commands answers new
  pub reported : text ≡ concat answers

-- the text is the answers to these lines, which are the first lines for the machine
abbrev pub AreAnswers : List (List ℕ) → List ℕ → Type 0
AreAnswers lines text = (state : State) × Answered start lines text state

-- the number of the next line after so many, at most the largest u64
abbrev pub next_number : ℕ → ℕ
next_number count = min (count + 1) (2 ^ 64 - 1)

-- what is written for a line that is no command
abbrev pub bad_line : ℕ → List ℕ
bad_line number = line (codes "bad line " ++ decimal number)

-- `before` is the lines of the input before the first that is no command
abbrev pub PrecedesBadLine : List (List ℕ) → List ℕ → Type 0
PrecedesBadLine before input = (bad : List ℕ) × (after : List (List ℕ)) × (lines_of input ≡ before ++ bad ∷ after) × IsNoCommand bad

-- nothing is left to read, and the text is the answers to all lines
pub record AnswersAll (input left : Option (List ℕ)) (text : List ℕ) : Type 0 where
  pub at_end : IsAtEnd left
  pub answers : IfSome input (λ bytes. AreAnswers (lines_of bytes) text)

-- the text is the answers to the lines before the first that is no command, and number is that line's
pub record StopsAtBadLine (number : ℕ) (input : Option (List ℕ)) (text : List ℕ) : Type 0 where
  pub before : List (List ℕ)
  pub answers : AreAnswers before text
  pub counted : number ≡ next_number (length before)
  pub first_bad : IfSome input (PrecedesBadLine before)

-- what was read is some whole lines, the current line and the bytes behind it, and the text is the answers to the whole lines
pub record StopsWithin (input left : Option (List ℕ)) (text behind : List ℕ) : Type 0 where
  pub before : List (List ℕ)
  pub hand : List ℕ
  pub answers : AreAnswers before text
  pub whole : All IsOneLine before
  pub one_line : IsOneLine hand
  pub read : Consumes input left (ended_lines before ++ (hand ++ behind))

-- what a run says of the bytes left to read, before and after it, and of those that were written
abbrev pub Reports : Result End RunFault → Option (List ℕ) → Option (List ℕ) → Option (List ℕ) → Option (List ℕ) → Type 0
Reports (Ok Clean) input left old new =
    (text : List ℕ) × Appends old new text × AnswersAll input left text
Reports (Ok (BadLine number)) input left old new =
    (text : List ℕ) × Appends old new (text ++ bad_line number) × StopsAtBadLine number input text
Reports (Err Read) input left old new =
    (text : List ℕ) × Appends old new text × StopsWithin input left text []
Reports (Err Memory) input left old new =
    (text : List ℕ) × Appends old new text
    × ((behind : List ℕ) × StopsWithin input left text behind × EndsLine behind × (length behind ≤ BLOCK))
Reports (Err Write) input left old new = Unit {0}

-- whether the reader and the writer have failed
abbrev pub Fails : Result End RunFault → Bool → Bool → Type 0
Fails (Ok end) reader writer = (reader ≡ false) × (writer ≡ false)
Fails (Err Read) reader writer = (reader ≡ true) × (writer ≡ false)
Fails (Err Write) reader writer = writer ≡ true
Fails (Err Memory) reader writer = (reader ≡ false) × (writer ≡ false)
