-- How many errors and warnings there are, and the message about them.
use Rattle.std.specs.Prelude.{ℕ, ◌==◌, nat_lt, not, List, ◌++◌, codes, decimal, Option, Some, None, if◌then◌else◌}
use Rattle.std.specs.List.{count_by}
use Rattle.app_cli.specs.declared.counts.Counts.{Counts}
use Rattle.expand_text.specs.Findings.{is_warning}
use Rattle.expand_text.specs.declared.fault.Finding.{Finding}
use Rattle.syntax_diagnostic.specs.declared.level.Level.{Level}
use Rattle.syntax_diagnostic.specs.declared.level.Level.TheVariants.{Error, Warning}

-- an error for each finding that is no warning, and a warning for each that is one
abbrev pub counts_of : List Finding → Counts
counts_of findings = record { errors = count_by (λ it. not (is_warning it.fault)) findings; warnings = count_by (λ it. is_warning it.fault) findings }

-- the exit status
abbrev pub status_of : Counts → ℕ
status_of counts = if nat_lt 0 counts.errors then 1 else 0

-- how grave the gravest is, if there is one
abbrev pub level_of : Counts → Option Level
level_of counts = if nat_lt 0 counts.errors then Some Error else if nat_lt 0 counts.warnings then Some Warning else None

-- the word for that number
abbrev pub word : ℕ → (one many : List ℕ) → List ℕ
word count one many = if count == 1 then one else many

-- the number and its word
abbrev pub counted : ℕ → (one many : List ℕ) → List ℕ
counted count one many = decimal count ++ codes " " ++ word count one many

-- the numbers of errors and warnings, if there are any
abbrev pub all_counted : Counts → List ℕ
all_counted counts =
    if counts.warnings == 0 then counted counts.errors (codes "error") (codes "errors")
    else if counts.errors == 0 then counted counts.warnings (codes "warning") (codes "warnings")
    else counted counts.errors (codes "error") (codes "errors") ++ codes " and " ++ counted counts.warnings (codes "warning") (codes "warnings")

-- the last message of a report
abbrev pub message_of : Counts → List ℕ
message_of counts = codes "found " ++ all_counted counts
