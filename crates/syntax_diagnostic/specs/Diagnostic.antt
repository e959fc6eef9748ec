-- The text of a fault.
use Rattle.std.specs.Prelude.{ℕ, List, [], ◌∷◌, ◌++◌, max, replicate, Option, Some, None, codes, string_bytes, String}
use Rattle.std.specs.Global.{Global}
use Rattle.std.specs.List.{flat_map}
use Rattle.syntax_diagnostic.specs.Level.{colour_of, word_of}
use Rattle.syntax_diagnostic.specs.Paint.{painted}
use Rattle.syntax_diagnostic.specs.Spot.{line, number_width, spot_text}
use Rattle.syntax_diagnostic.specs.declared.diagnostic.Diagnostic.{Diagnostic}
use Rattle.syntax_diagnostic.specs.declared.diagnostic.PlacedNote.{PlacedNote}
use Rattle.syntax_diagnostic.specs.declared.level.Level.{Level}
use Rattle.syntax_diagnostic.specs.declared.paint.Colour.TheVariants.{Blue, Green}
use Rattle.syntax_diagnostic.specs.declared.paint.Style.{Style}
use Rattle.syntax_diagnostic.specs.declared.spot.Spot.{Spot}

-- how many columns the number of a place's line takes: one if there is no place
abbrev pub spot_width : Option Spot → ℕ
spot_width None = 1
spot_width (Some spot) = number_width spot.place.line

-- how many columns the number of a note's line takes
abbrev pub note_width : PlacedNote → ℕ
note_width note = number_width note.spot.place.line

-- how many columns the longest number of a line takes: those of the notes, or that many
abbrev pub widest : (width : ℕ) → List PlacedNote → ℕ
widest width [] = width
widest width (note ∷ notes) = max (note_width note) (widest width notes)

abbrev pub width_of : Diagnostic → ℕ
width_of diagnostic = widest (spot_width diagnostic.spot) diagnostic.placed_notes.items

-- the level and the message
abbrev pub message_line : Style → Diagnostic → List ℕ
message_line style diagnostic = painted style (colour_of diagnostic.level) (word_of diagnostic.level) ++ codes ": " ++ line diagnostic.message.now

-- the place of the fault, if it has one
abbrev pub place_lines : Style → Level → (width : ℕ) → Option Spot → List ℕ
place_lines style level width None = []
place_lines style level width (Some spot) = spot_text style (colour_of level) width spot

-- the word before a note
abbrev pub note_word : Style → List ℕ
note_word style = painted style Green (codes "note") ++ codes ": "

-- a note
abbrev pub note_line : Style → (width : ℕ) → (note : List ℕ) → List ℕ
note_line style width note = replicate width 32 ++ codes " " ++ painted style Blue (codes "=") ++ codes " " ++ note_word style ++ line note

-- all notes
abbrev pub notes_text : Style → (width : ℕ) → List (String Global) → List ℕ
notes_text style width notes = flat_map (λ note. note_line style width (string_bytes note)) notes

-- a note with a place
abbrev pub placed_lines : Style → (width : ℕ) → PlacedNote → List ℕ
placed_lines style width note = note_word style ++ line note.message.now ++ spot_text style Green width note.spot

-- all notes with places
abbrev pub placed_text : Style → (width : ℕ) → List PlacedNote → List ℕ
placed_text style width notes = flat_map (placed_lines style width) notes

-- the message, and the lines below it
abbrev pub diagnostic_text : Style → Diagnostic → List ℕ
diagnostic_text style diagnostic =
    message_line style diagnostic ++ place_lines style diagnostic.level (width_of diagnostic) diagnostic.spot
    ++ notes_text style (width_of diagnostic) diagnostic.notes.items ++ placed_text style (width_of diagnostic) diagnostic.placed_notes.items
