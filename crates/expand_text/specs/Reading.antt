-- What is written of the trees that replace calls, and what the expanded text reads as.
use Rattle.std.specs.Prelude.{◌≡◌, ℕ, Bool, true, false, List, [], ◌∷◌, ◌++◌}
use Rattle.tt.specs.Forest.{Forest}
use Rattle.tt.specs.Span.{start_of, end_of}
use Rattle.tt.specs.Types.Delimiter.{Delimiter}
use Rattle.tt.specs.Types.Leaf.{Leaf}
use Rattle.tt.specs.Types.Span.{Span}
use Rattle.expand_text.specs.Outcomes.{Outcome, nothing, passes, enters, stays, becomes}
use Rattle.syntax_edit.specs.Splices.{IsSpelling, Splice}
use Rattle.syntax_parse.specs.Spelled.{Sort, opening, closing, sort_of, spelled}
use Rattle.syntax_unparse.specs.Marks.{marks}
use Rattle.syntax_unparse.specs.Settled.{settled, sorts}
use Rattle.syntax_unparse.specs.Text.{text_of}

-- a text spells trees: on one line it is their Rust text, and otherwise any text that reads back as them
abbrev pub Spells : (one_line : Bool) → Forest → (text : List ℕ) → Type 0
Spells true trees text = text ≡ text_of trees
Spells false trees text = IsSpelling trees text

-- trees, and a text that spells them, replace what is from a span to another
abbrev pub splice : (first last : Span) → Forest → (text : List ℕ) → Splice
splice first last trees text = record { start = start_of first.range; end = end_of last.range; trees = trees; text = text }

-- the trees that replace calls, in order, each with a text that spells them
pub data AreSplices (one_line : Bool) : Outcome → List Splice → Type 0 where
  ended : AreSplices one_line nothing []
  passed : {it : Leaf} {behind : Outcome} {splices : List Splice}
      → AreSplices one_line behind splices
      → AreSplices one_line (passes it behind) splices
  entered : {delimiter : Delimiter} {inside behind : Outcome} {first second : List Splice}
      → AreSplices one_line inside first
      → AreSplices one_line behind second
      → AreSplices one_line (enters delimiter inside behind) (first ++ second)
  stayed : {trees : Forest} {behind : Outcome} {splices : List Splice}
      → AreSplices one_line behind splices
      → AreSplices one_line (stays trees behind) splices
  became : {first last : Span} {trees : Forest} {behind : Outcome} {splices : List Splice} {text : List ℕ}
      → Spells one_line trees text
      → AreSplices one_line behind splices
      → AreSplices one_line (becomes first last trees behind) (splice first last trees text ∷ splices)

-- what the trees that are left read as when written: those of the text as before, and those of expansions as what is written of them
abbrev pub sorts_left : Outcome → List Sort
sorts_left nothing = []
sorts_left (passes it behind) = sort_of it ∷ sorts_left behind
sorts_left (enters delimiter inside behind) = opening delimiter.kind ∷ (sorts_left inside ++ closing delimiter.kind ∷ sorts_left behind)
sorts_left (stays trees behind) = sorts (spelled trees) ++ sorts_left behind
sorts_left (becomes first last trees behind) = settled (marks 0 trees) ++ sorts_left behind
