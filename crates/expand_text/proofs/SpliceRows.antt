-- Worked splices of outcomes. Each holds by computation.
use Rattle.std.proofs.Common.{◌≡◌, ℕ, true, List, [], ◌∷◌, ap, codes, length, refl}
use Rattle.tt.specs.Forest.{Forest, end}
use Rattle.tt.specs.Token.{delimiter}
use Rattle.tt.specs.Types.Delimiter.{Delimiter}
use Rattle.tt.specs.Types.DelimiterKind.TheVariants.{Parenthesis}
use Rattle.tt_base.proofs.Samples.{ident, span}
use Rattle.expand_text.specs.Outcomes.{Outcome, nothing, passes, enters, stays, becomes}
use Rattle.expand_text.specs.Reading.{AreSplices, Spells, ended, passed, entered, stayed, became}
use Rattle.expand_text.proofs.Splicing.{one_line_list}
use Rattle.syntax_edit.specs.Splices.{Splice, replacements_of}
use Rattle.mbe_pattern.proofs.Rows.{word, alone}
use Rattle.syntax_edit.specs.Texts.{begun, with_all}

-- `a + b` as trees
abbrev sum : Forest
sum = word (codes "a") (alone 43 (word (codes "b") end))

-- in `f(m!()) m!()` each call becomes them
abbrev brackets : Delimiter
brackets = delimiter Parenthesis (span 1 1) (span 6 1)

abbrev inside : Outcome
inside = becomes (span 2 1) (span 5 1) sum nothing

abbrev behind : Outcome
behind = becomes (span 8 1) (span 11 1) sum nothing

abbrev outcome : Outcome
outcome = stays (word (codes "f") end) (enters brackets inside behind)

abbrev from_to : (start stop : ℕ) → Splice
from_to start stop = record { start = start; end = stop; trees = sum; text = codes "a + b" }

-- On one line the spaces are those of the Rust text, and no others.
one_text : Spells true sum (codes "a + b")
unfolding lib.Utf8.encode
one_text = refl

no_other_text : Spells true sum (codes "a+b") → ⊥
unfolding lib.Utf8.encode
no_other_text same =
    let lengths : ◌≡◌ {A = ℕ} 3 5 = ap length same in
    cc

-- Only a call that is replaced has a splice, and they are in the order of the text.
none_replaced : AreSplices true (passes (ident (codes "x")) nothing) []
none_replaced = passed ended

both_replaced : AreSplices true outcome (from_to 2 6 ∷ from_to 8 12 ∷ [])
unfolding lib.Utf8.encode
both_replaced = stayed (entered (became refl ended) (became refl ended))

-- There is no other list of them.
no_other_list : (splices : List Splice) → AreSplices true outcome splices → splices ≡ from_to 2 6 ∷ from_to 8 12 ∷ []
no_other_list splices are = one_line_list are both_replaced

-- The text with both.
expanded : with_all (replacements_of (from_to 2 6 ∷ from_to 8 12 ∷ [])) (begun (codes "f(m!()) m!()")) ≡ codes "f(a + b) a + b"
expanded = refl
