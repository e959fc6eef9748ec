-- The texts so far, and then those of the findings that are left.
use Rattle.std.proofs.Common.{ℕ, List, ◌++◌, drop}
use Rattle.std.specs.Prelude.{string_bytes}
use Rattle.app_cli.proofs.diagnostics.diagnostics_text.Given as goal
use Rattle.app_cli.specs.Reports.{AreDiagnosticTexts}

abbrev pub invariant-loop-finding : goal.invariant-loop-finding
invariant-loop-finding l =
    record {
      written : (others : List ℕ) → AreDiagnosticTexts l.style l.name l.text l.options l.callers (drop l.finding-index l.findings) others
          → AreDiagnosticTexts l.style l.name l.text l.options l.callers l.findings (string_bytes l.all ++ others);
    }
