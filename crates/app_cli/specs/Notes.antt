-- The notes on a finding that have places of their own.
use Rattle.std.specs.Prelude.{◌≡◌, ◌-◌, ℕ, zero, suc, List, [], ◌∷◌, ◌++◌, length, map, take, drop, slice_get, codes, string_bytes, nat_lt, Option, None, Some, if◌then◌else◌}
use Rattle.app_cli.specs.Messages.{about}
use Rattle.app_cli.specs.declared.note.NoteAt.{NoteAt}
use Rattle.expand_text.specs.declared.caller.Caller.{Caller}
use Rattle.expand_text.specs.declared.fault.Finding.{Finding}
use Rattle.expand_text.specs.declared.fault.MacroFault.{MacroFault}
use Rattle.expand_text.specs.declared.fault.MacroFault.TheVariants as wrong
use Rattle.syntax_diagnostic.specs.Place.{place_of}
use Rattle.syntax_diagnostic.specs.Source.{line_text}
use Rattle.syntax_diagnostic.specs.declared.diagnostic.PlacedNote.{PlacedNote}
use Rattle.syntax_diagnostic.specs.declared.spot.Spot.{Spot}

-- a note, and its byte in the text
pub record Note : Type 0 where
  pub message : List ℕ
  pub at : ℕ

-- what the values of the code mean
abbrev pub note_of : NoteAt → Note
note_of it = record { message = string_bytes it.message; at = it.at }

-- the byte that a diagnostic shows beside its own: where the macro binds a captured name, or else its definition
abbrev pub other_byte : Finding → Option ℕ
other_byte finding = byte_by finding.fault
  where
    byte_by : MacroFault → Option ℕ
    byte_by (wrong.Captured binding) = Some binding
    byte_by fault = finding.defined_at

-- what is there
abbrev pub other_message : (name : List ℕ) → MacroFault → List ℕ
other_message name (wrong.Captured binding) = about [] name (codes " binds it here")
other_message name fault = about [] name (codes " is defined here")

-- the note there, if there is such a place
abbrev pub note_if : (message : List ℕ) → Option ℕ → List Note
note_if message None = []
note_if message (Some at) = record { message = message; at = at } ∷ []

abbrev pub other_notes : Finding → List Note
other_notes finding = note_if (other_message finding.name finding.fault) (other_byte finding)

-- the caller of a number, if there is one
abbrev pub caller_at : List Caller → Option ℕ → Option Caller
caller_at callers None = None
caller_at callers (Some number) = slice_get callers number

-- a caller, if there is one, and those around it
abbrev pub with_outer : (outer : Caller → List Caller) → Option Caller → List Caller
with_outer outer None = []
with_outer outer (Some it) = it ∷ outer it

-- a caller, the one that wrote it, and so on, as many as there may be
abbrev pub trail_from : List Caller → (most : ℕ) → Option ℕ → List Caller
trail_from callers zero number = []
trail_from callers (suc most) number = with_outer (λ it. trail_from callers most it.caller) (caller_at callers number)

-- the calls around a place, the innermost first
abbrev pub trail : List Caller → Option ℕ → List Caller
trail callers number = trail_from callers (length callers) number

-- at most so many of them are shown
abbrev pub most_callers : ℕ
most_callers = 8

-- of more than that, the innermost and the outermost
abbrev pub shown_callers : List Caller → List Caller
shown_callers its = if nat_lt most_callers (length its) then take (most_callers - 1) its ++ drop (length its - 1) its else its

abbrev pub hidden_callers : List Caller → Finding → ℕ
hidden_callers callers finding = length (trail callers finding.caller) - most_callers

-- the note on one
abbrev pub caller_note : Caller → Note
caller_note it = record { message = about (codes "in this call of ") it.name []; at = it.at }

-- all notes with places on a finding
abbrev pub notes_at : List Caller → Finding → List Note
notes_at callers finding = other_notes finding ++ map caller_note (shown_callers (trail callers finding.caller))

-- the place of a byte in a text of that name
pub record IsSpot (name text : List ℕ) (at : ℕ) (spot : Spot) : Type 0 where
  pub file : spot.file.now ≡ name
  pub place : spot.place ≡ place_of text at
  pub line : spot.line.now ≡ line_text text (place_of text at).line

-- notes with their places in a text of that name
abbrev pub ArePlaced : (name text : List ℕ) → List Note → List PlacedNote → Type 0
ArePlaced name text [] [] = Unit {0}
ArePlaced name text [] (it ∷ its) = ⊥
ArePlaced name text (note ∷ notes) [] = ⊥
ArePlaced name text (note ∷ notes) (it ∷ its) = (it.message.now ≡ note.message) × IsSpot name text note.at it.spot × ArePlaced name text notes its
