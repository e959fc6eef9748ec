-- The calls around a place, next to rows worked out by hand. Each holds by computation.
use Rattle.std.proofs.Common.{◌≡◌, ◌++◌, ℕ, List, [], ◌∷◌, Option, None, Some, map, codes, refl}
use Rattle.app_cli.specs.Notes.{Note, hidden_callers, notes_at, other_notes, shown_callers, trail}
use Rattle.expand_text.specs.declared.caller.Caller.{Caller}
use Rattle.expand_text.specs.declared.fault.Finding.{Finding}
use Rattle.expand_text.specs.declared.fault.MacroFault.{MacroFault}
use Rattle.expand_text.specs.declared.fault.MacroFault.TheVariants as wrong

abbrev caller : (at : ℕ) → Option ℕ → Caller
caller at by = record { name = codes "t"; at = at; caller = by }

-- two calls of the text, the first with a call inside
abbrev callers : List Caller
callers = caller 5 None ∷ caller 2 (Some 0) ∷ caller 9 None ∷ []

in_text : trail callers None ≡ []
in_text = refl

in_first : trail callers (Some 1) ≡ caller 2 (Some 0) ∷ caller 5 None ∷ []
in_first = refl

in_second : trail callers (Some 2) ≡ caller 9 None ∷ []
in_second = refl

-- A number that is none, and a caller that names itself, end.
no_number : trail callers (Some 3) ≡ []
no_number = refl

itself : trail (caller 1 (Some 0) ∷ []) (Some 0) ≡ caller 1 (Some 0) ∷ []
itself = refl

-- Eight are shown; of nine, the first seven and the last.
abbrev at : ℕ → Caller
at byte = caller byte None

abbrev seven : List Caller
seven = map at (1 ∷ 2 ∷ 3 ∷ 4 ∷ 5 ∷ 6 ∷ 7 ∷ [])

eight_shown : shown_callers (seven ++ at 8 ∷ []) ≡ seven ++ at 8 ∷ []
eight_shown = refl

nine_shown : shown_callers (seven ++ at 8 ∷ at 9 ∷ []) ≡ seven ++ at 9 ∷ []
nine_shown = refl

-- The definition comes before the calls. A captured name shows where the macro binds it instead.
abbrev finding : MacroFault → Option ℕ → Finding
finding fault by = record { name = codes "m"; at = 3; fault = fault; defined_at = Some 4; expected = None; caller = by }

abbrev note : List ℕ → ℕ → Note
note message byte = record { message = message; at = byte }

all_notes : notes_at callers (finding wrong.NoMatch (Some 1)) ≡ note (codes "`m` is defined here") 4 ∷ note (codes "in this call of `t`") 2 ∷ note (codes "in this call of `t`") 5 ∷ []
all_notes = refl

none_hidden : hidden_callers callers (finding wrong.NoMatch (Some 1)) ≡ 0
none_hidden = refl

captured : other_notes (finding (wrong.Captured 6) None) ≡ note (codes "`m` binds it here") 6 ∷ []
captured = refl

definition : other_notes (record { name = codes "m"; at = 3; fault = wrong.NoMatch; defined_at = None; expected = None; caller = None }) ≡ []
definition = refl
