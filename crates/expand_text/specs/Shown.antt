-- The faults that the rules of a definition show, whatever the input of a call.
use Rattle.std.specs.Prelude.{◌≡◌, ◌⊎◌, ℕ, List, [], map}
use Rattle.tt.specs.Forest.{Forest}
use Rattle.tt.specs.Span.{start_of}
use Rattle.tt.specs.Stored.{IsWithinLimits}
use Rattle.tt.specs.TreeFault.{under}
use Rattle.expand_items.specs.Items.{Definition}
use Rattle.expand_text.specs.declared.fault.MacroFault.{MacroFault}
use Rattle.expand_text.specs.declared.shown.ShownFault.{ShownFault}
use Rattle.expand_text.specs.Macros.{IsDefinitionFault}
use Rattle.expand_text.specs.Places.{template_byte}
use Rattle.mbe_rules.specs.declared.rules_error.ExpandError.{ExpandError}
use Rattle.mbe_rules.specs.Arms.{Arm, Spell}
use Rattle.mbe_rules.specs.Faults.{faults_of}

-- a fault, and its byte in these arms, which end at that byte
abbrev pub shown_at : (arms : Forest) → (behind : ℕ) → ExpandError → ShownFault
shown_at arms behind why = record { error = why; at = template_byte arms why behind }

-- a definition with these arms shows those faults: those of its rules; or none, if the definition has a fault
abbrev pub AreShown : Definition → (arms : Forest) → List ShownFault → Type 0
AreShown it trees faults =
    ((arms : List Arm) × IsWithinLimits (under it.delimiter trees) × Spell trees arms
    × (faults ≡ map (shown_at trees (start_of it.delimiter.close.range)) (faults_of arms 0)))
    ⊎ ((at : ℕ) × (fault : MacroFault) × IsDefinitionFault it trees at fault × (faults ≡ []))
