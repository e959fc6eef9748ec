-- What the program writes of a text whose macros are expanded.
use Rattle.std.specs.Prelude.{◌≡◌, ◌-◌, ℕ, zero, suc, List, [], ◌∷◌, ◌++◌, length, take, map, nat_lt, codes, decimal, string_bytes, Option, None, Some, MatchOption, if◌then◌else◌}
use Rattle.app_files.specs.Plain.{IsPlainText}
use Rattle.app_cli.specs.Counts.{counted, counts_of, level_of, message_of}
use Rattle.app_cli.specs.Messages.{message}
use Rattle.app_cli.specs.Notes.{ArePlaced, IsSpot, hidden_callers, notes_at}
use Rattle.app_cli.specs.declared.counts.Counts.{Counts}
use Rattle.app_cli.specs.declared.report.Report.{Report}
use Rattle.expand_text.specs.Findings.{is_warning}
use Rattle.expand_text.specs.declared.caller.Caller.{Caller}
use Rattle.expand_text.specs.declared.fault.Finding.{Finding}
use Rattle.expand_text.specs.declared.fault.MacroFault.{MacroFault}
use Rattle.expand_text.specs.declared.fault.MacroFault.TheVariants as wrong
use Rattle.expand_text.specs.declared.options.ExpandOptions.{ExpandOptions}
use Rattle.expand_text.specs.declared.text.Expanded.{Expanded}
use Rattle.syntax_diagnostic.specs.Diagnostic.{diagnostic_text}
use Rattle.syntax_diagnostic.specs.declared.diagnostic.Diagnostic.{Diagnostic}
use Rattle.syntax_diagnostic.specs.declared.level.Level.{Level}
use Rattle.syntax_diagnostic.specs.declared.level.Level.TheVariants.{Error, Warning}
use Rattle.syntax_diagnostic.specs.declared.paint.Style.{Style}

-- how grave a fault is
abbrev pub level_of_fault : MacroFault → Level
level_of_fault fault = if is_warning fault then Warning else Error

-- what the rules of the macro expect, if none of them matches
abbrev pub expected_note : (expected : Option (List ℕ)) → List (List ℕ)
expected_note None = []
expected_note (Some text) = (codes "expected " ++ text) ∷ []

-- the limit that a fault passes
abbrev pub limit_note : ExpandOptions → MacroFault → List (List ℕ)
limit_note options wrong.TooDeep = (codes "the limit is " ++ decimal options.limit ++ codes "; --limit N sets another one, up to 1000") ∷ []
limit_note options wrong.OverMaxTokens =
    (codes "the limit is " ++ decimal options.max_tokens ++ codes " tokens for a call and the calls in its result; --max-tokens N sets another one") ∷ []
limit_note options fault = []

-- the notes on a finding
abbrev pub notes_on : ExpandOptions → Finding → List (List ℕ)
notes_on options finding = limit_note options finding.fault ++ expected_note finding.expected

-- how many calls around a place are not shown, if some are not
abbrev pub hidden_note : (hidden : ℕ) → List (List ℕ)
hidden_note zero = []
hidden_note (suc more) =
    counted (suc more) (codes "call between the last two is not shown") (codes "calls between the last two are not shown") ∷ []

-- the diagnostic of a finding in a text of that name, in what these callers wrote
pub record IsDiagnosticOf (file text : List ℕ) (options : ExpandOptions) (callers : List Caller) (finding : Finding) (it : Diagnostic) : Type 0 where
  pub level : it.level ≡ level_of_fault finding.fault
  pub message : it.message.now ≡ message finding.name finding.fault
  pub spot : MatchOption it.spot ⊥ (IsSpot file text finding.at)
  pub notes : map string_bytes it.notes.items ≡ notes_on options finding ++ hidden_note (hidden_callers callers finding)
  pub placed : ArePlaced file text (notes_at callers finding) it.placed_notes.items

-- its text
abbrev pub IsDiagnosticText : Style → (file text : List ℕ) → ExpandOptions → List Caller → Finding → List ℕ → Type 0
IsDiagnosticText style file text options callers finding written =
    (it : Diagnostic) × IsDiagnosticOf file text options callers finding it × (written ≡ diagnostic_text style it)

-- the texts of all findings in order, with an empty line behind each
abbrev pub AreDiagnosticTexts : Style → (file text : List ℕ) → ExpandOptions → List Caller → List Finding → List ℕ → Type 0
AreDiagnosticTexts style file text options callers [] written = written ≡ []
AreDiagnosticTexts style file text options callers (finding ∷ findings) written =
    (first others : List ℕ) × IsDiagnosticText style file text options callers finding first
    × AreDiagnosticTexts style file text options callers findings others
    × (written ≡ first ++ 10 ∷ others)

-- the last line: the number of errors and warnings, if there are any
abbrev pub IsSummary : Style → Counts → List ℕ → Type 0
IsSummary style counts written = MatchOption (level_of counts) (written ≡ []) (λ level. IsPlainText style level (message_of counts) written)

-- at most so many findings of a text are shown
abbrev pub most_shown : ℕ
most_shown = 100

-- how many diagnostics are not shown
abbrev pub more_message : (more : ℕ) → List ℕ
more_message more = counted more (codes "more diagnostic is not shown") (codes "more diagnostics are not shown")

-- what follows the diagnostics: how many are not shown, if some are not
abbrev pub IsMoreText : Style → (more : ℕ) → List ℕ → Type 0
IsMoreText style zero written = written ≡ []
IsMoreText style (suc more) written =
    (line : List ℕ) × IsPlainText style Warning (more_message (suc more)) line × (written ≡ line ++ 10 ∷ [])

-- the first findings are shown, and it is said how many others there are
pub record AreShown (style : Style) (file text : List ℕ) (options : ExpandOptions) (callers : List Caller) (findings : List Finding) (written : List ℕ) : Type 0 where
  pub first : List ℕ
  pub more : List ℕ
  pub shown : AreDiagnosticTexts style file text options callers (take most_shown findings) first
  pub others : IsMoreText style (length findings - most_shown) more
  pub is : written ≡ first ++ more

-- the findings are shown, and the expanded text is the output, unless a finding is an error
pub record IsReport (style : Style) (file text : List ℕ) (options : ExpandOptions) (found : Expanded) (report : Report) : Type 0 where
  pub diagnostics : AreShown style file text options found.callers.items found.findings.items (string_bytes report.diagnostics)
  pub counts : report.counts ≡ counts_of found.findings.items
  pub output : report.output ≡ (if nat_lt 0 (counts_of found.findings.items).errors then None else Some found.text)
