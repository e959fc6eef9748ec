-- The splices of an outcome, and the texts that they carry.
use Rattle.std.proofs.Common.{◌≡◌, ◌++◌, ℕ, Bool, true, false, List, [], ◌∷◌, refl, ap, ap₂, sym, subst, ◌∙◌}
use Rattle.tt.specs.Forest.{Forest}
use Rattle.expand_text.specs.Outcomes.{Outcome}
use Rattle.expand_text.specs.Reading.{AreSplices, Spells, ended, passed, entered, stayed, became, splice}
use Rattle.syntax_edit.proofs.Spelling.{plain_spelling}
use Rattle.syntax_edit.specs.Splices.{IsSpelling, Splice, replacement_of, replacements_of}
use Rattle.syntax_unparse.specs.Writable.{IsWritable}

-- The texts of splices and of others after them.
pub replacements_append : (a b : List Splice) → replacements_of (a ++ b) ≡ replacements_of a ++ replacements_of b
replacements_append [] b = refl
replacements_append (it ∷ a) b = ap (λ rs. replacement_of it ∷ rs) (replacements_append a b)

-- A text that spells trees that can be written reads back as them, also if it is on one line.
pub spelling_of : (one_line : Bool) (trees : Forest) (text : List ℕ) → IsWritable trees → Spells one_line trees text → IsSpelling trees text
spelling_of true trees text writable same = subst (IsSpelling trees) (sym same) (plain_spelling trees writable)
spelling_of false trees text writable spelling = spelling

-- On one line an outcome has only one list of splices.
pub one_line_list : {outcome : Outcome} {a b : List Splice} → AreSplices true outcome a → AreSplices true outcome b → a ≡ b
one_line_list ended ended = refl
one_line_list (passed are) (passed were) = one_line_list are were
one_line_list (entered are more) (entered were others) = ap₂ (λ a b. a ++ b) (one_line_list are were) (one_line_list more others)
one_line_list (stayed are) (stayed were) = one_line_list are were
one_line_list (became {first = first} {last = last} {trees = trees} same are) (became same_too were) =
    ap₂ (λ text splices. splice first last trees text ∷ splices) (same ∙ sym same_too) (one_line_list are were)
