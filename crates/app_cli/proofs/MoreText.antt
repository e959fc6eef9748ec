-- The line that says how many diagnostics are not shown.
use Rattle.std.proofs.Common.{◌≡◌, ◌++◌, ◌∷◌, [], ℕ, zero, suc, List, refl}
use Rattle.app_files.specs.Plain.{IsPlainText}
use Rattle.app_cli.specs.Reports.{more_message, IsMoreText}
use Rattle.syntax_diagnostic.specs.declared.level.Level.TheVariants.{Warning}
use Rattle.syntax_diagnostic.specs.declared.paint.Style.{Style}

-- It is written if some are not shown.
pub more_written : (style : Style) (more : ℕ) (line : List ℕ) → (more ≡ 0 → ⊥)
    → IsPlainText style Warning (more_message more) line → IsMoreText style more (line ++ 10 ∷ [])
more_written style zero line some is = absurd (some refl)
more_written style (suc more) line some is = (line, is, refl)
