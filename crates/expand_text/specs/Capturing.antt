-- Names that an expansion binds, and that its call was given.
use Rattle.std.specs.Prelude.{◌≡◌, ℕ, Option, None, Some}
use Rattle.tt.specs.Forest.{Forest}
use Rattle.tt.specs.Span.{start_of}
use Rattle.expand_hygiene.specs.Captures.{IsCapture}
use Rattle.expand_hygiene.specs.declared.captures.Capture.{Capture}
use Rattle.expand_hygiene.specs.declared.captures.ExpandTo.{ExpandTo}
use Rattle.expand_hygiene.specs.declared.captures.ExpandTo.TheVariants as to
use Rattle.expand_items.specs.Items.{Call}
use Rattle.expand_items.specs.declared.position.Position.{Position}
use Rattle.expand_items.specs.declared.position.Siblings.{Siblings}
use Rattle.expand_items.specs.declared.position.Siblings.TheVariants as siblings
use Rattle.expand_text.specs.declared.fault.Finding.{Finding}
use Rattle.expand_text.specs.declared.fault.MacroFault.TheVariants as wrong
use Rattle.expand_text.specs.Contexts.{Context, with_finding}

-- what an expansion of such siblings is read as
abbrev pub expand_to : Siblings → ExpandTo
expand_to siblings.Items = to.Items
expand_to siblings.Statements = to.Statements
expand_to siblings.Others = to.Expr

-- the finding of a captured name, at that name
abbrev pub capture_found : (defined_at : ℕ) → Call → Capture → Finding
capture_found defined_at it found =
    record { name = it.name.sym; at = start_of found.captured.range; fault = wrong.Captured (start_of found.binding.range); defined_at = Some defined_at; expected = None; caller = None }

-- what is known after a name of the call is captured; or none is
abbrev pub with_capture : (defined_at : ℕ) → Call → Option Capture → Context → Context
with_capture defined_at it None context = context
with_capture defined_at it (Some found) context = with_finding (capture_found defined_at it found) context

-- the expansion of a call binds a name that the call was given, which is found; or it binds none
abbrev pub IsCaptureFound : (defined_at : ℕ) → Call → Position → (body : Forest) → (before after : Context) → Type 0
IsCaptureFound defined_at it position body before after =
    (found : Option Capture) × IsCapture (expand_to position.siblings) it.input body found × (after ≡ with_capture defined_at it found before)
