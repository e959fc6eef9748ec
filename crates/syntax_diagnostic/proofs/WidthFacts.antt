-- The longest number of a line, note by note.
use Rattle.std.proofs.Common.{◌≡◌, ◌∙◌, ℕ, List, [], ◌∷◌, ap, arith, max, sym}
use Rattle.std.proofs.lemmas.Int.{clamps}
use Rattle.syntax_diagnostic.specs.Diagnostic.{note_width, widest}
use Rattle.syntax_diagnostic.specs.declared.diagnostic.PlacedNote.{PlacedNote}

-- It does not matter when a width is counted.
widest_max : (width more : ℕ) (notes : List PlacedNote) → widest (max width more) notes ≡ max more (widest width notes)
widest_max width more [] = omega (arith, clamps)
widest_max width more (note ∷ notes) = let later = widest_max width more notes in omega (arith, clamps, later)

-- The first note is counted, and the others are left.
pub widest_next : (width next : ℕ) (note : PlacedNote) (ahead behind : List PlacedNote) → ahead ≡ note ∷ behind → next ≡ max width (note_width note)
    → widest next behind ≡ widest width ahead
widest_next width next note ahead behind first is =
    ap (λ it. widest it behind) is ∙ widest_max width (note_width note) behind ∙ ap (widest width) (sym first)
