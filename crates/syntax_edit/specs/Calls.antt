-- Where calls are among the pieces of a text, and how the text is read if trees replace them.
use Rattle.std.specs.Prelude.{◌≡◌, ℕ, Bool, true, false, not, ◌==◌, ◌&&◌, ◌||◌, List, [], ◌∷◌, ◌++◌}
use Rattle.tt_base.specs.Forest.{Forest}
use Rattle.syntax_edit.specs.Splices.{IsSpelling, Splice}
use Rattle.syntax_parse.specs.Spelled.{Piece, Sort, name, sign, value, opening, closing, spelled}
use Rattle.syntax_unparse.specs.Marks.{marks}
use Rattle.syntax_unparse.specs.Settled.{settled}

-- whether a literal is the latest of these leaves and brackets, the latest first
abbrev pub follows_value : (before : List Sort) → Bool
follows_value [] = false
follows_value (name text raw ∷ before) = false
follows_value (sign char spacing ∷ before) = false
follows_value (value kind symbol suffix ∷ before) = true
follows_value (opening kind ∷ before) = false
follows_value (closing kind ∷ before) = false

-- whether the name of a call may begin after these: not after a `'`, and not after a `.` that follows a literal
abbrev pub may_begin : (before : List Sort) → Bool
may_begin [] = true
may_begin (name text raw ∷ before) = true
may_begin (sign char spacing ∷ before) = not ((char == 39) || ((char == 46) && follows_value before))
may_begin (value kind symbol suffix ∷ before) = true
may_begin (opening kind ∷ before) = true
may_begin (closing kind ∷ before) = true

-- whether a piece is a name
abbrev pub is_name : Sort → Bool
is_name (name text raw) = true
is_name (sign char spacing) = false
is_name (value kind symbol suffix) = false
is_name (opening kind) = false
is_name (closing kind) = false

-- whether a piece is a `!` or a `:`
abbrev pub is_call_sign : Sort → Bool
is_call_sign (name text raw) = false
is_call_sign (sign char spacing) = (char == 33) || (char == 58)
is_call_sign (value kind symbol suffix) = false
is_call_sign (opening kind) = false
is_call_sign (closing kind) = false

-- whether a piece is a closing bracket or a `;`
abbrev pub is_last : Sort → Bool
is_last (name text raw) = false
is_last (sign char spacing) = char == 59
is_last (value kind symbol suffix) = false
is_last (opening kind) = false
is_last (closing kind) = true

-- the first of these pieces is a name that begins at byte `start`, and the second is a `!` or a `:`
abbrev pub BeginsCall : (start : ℕ) → List Piece → Type 0
BeginsCall start [] = ⊥
BeginsCall start (first ∷ []) = ⊥
BeginsCall start (first ∷ second ∷ others) = (first.start ≡ start) × (is_name first.sort ≡ true) × (is_call_sign second.sort ≡ true)

-- the last of these pieces ends at byte `end`, and is a closing bracket or a `;`
abbrev pub EndsCall : (end : ℕ) → List Piece → Type 0
EndsCall end pieces = (front : List Piece) × (last : Piece) × (pieces ≡ front ++ last ∷ []) × (last.end ≡ end) × (is_last last.sort ≡ true)

-- the pieces of a call: they are whole trees and a range of a text
pub record IsTaken (pieces : List Piece) (start end : ℕ) : Type 0 where
  pub trees : Forest
  pub spelled : pieces ≡ spelled trees
  pub begins : BeginsCall start pieces
  pub ends : EndsCall end pieces

-- the reading of a text with these pieces, after those leaves and brackets, if splices replace parts: each
-- piece stays, or trees replace those of a call
pub data IsWoven : (before : List Sort) → List Piece → List Splice → List Sort → Type 0 where
  ends : {before : List Sort} → IsWoven before [] [] []
  keeps : {before : List Sort} {piece : Piece} {pieces : List Piece} {splices : List Splice} {woven : List Sort}
      → IsWoven (piece.sort ∷ before) pieces splices woven
      → IsWoven before (piece ∷ pieces) splices (piece.sort ∷ woven)
  gives_way : {before : List Sort} {call pieces : List Piece} {it : Splice} {splices : List Splice} {woven : List Sort}
      → may_begin before ≡ true
      → IsTaken call it.start it.end
      → IsSpelling it.trees it.text
      → IsWoven [] pieces splices woven
      → IsWoven before (call ++ pieces) (it ∷ splices) (settled (marks 0 it.trees) ++ woven)
