-- The code of a builder's state, which a model needs.
use Rattle.std.specs.Prelude.{◌≡◌, ℕ, List, [], ◌∷◌, Option, refl}
use Rattle.std.specs.Coded.{Coded, code_by, coded×, coded_list, coded_option, coded_ℕ}
use Rattle.std.proofs.Common.{ap}
use Rattle.tt_base.specs.contracts.delimiter.Delimiter.{the_row as delimiter_row}
use Rattle.tt_base.specs.contracts.delimiter.DelimiterKind.{the_row as kind_row}
use Rattle.tt_base.specs.contracts.span.Span.{the_row as span_row}
use Rattle.tt_base.specs.declared.delimiter.Delimiter.{Delimiter}
use Rattle.tt_base.specs.declared.delimiter.DelimiterKind.{DelimiterKind}
use Rattle.tt_base.specs.declared.span.Span.{Span}
use Rattle.tt_base.specs.Forest.{Forest}
use Rattle.tt_base.specs.Unflat.{forest_code}
use Rattle.tt_base.specs.Building.{Stack, lowest, above, bottom, Point, BuilderState}

-- the open subtrees, innermost first
abbrev pub open_of : Stack → List (DelimiterKind × Span × Forest)
open_of (lowest trees) = []
open_of (above outer kind open_span trees) = (kind, open_span, trees) ∷ open_of outer

-- the levels with these open subtrees above those trees
abbrev pub stack_from : List (DelimiterKind × Span × Forest) → Forest → Stack
stack_from [] trees = lowest trees
stack_from (it ∷ others) trees = above (stack_from others trees) it.0 it.1 it.2

-- These are the levels again.
pub stack_back : (stack : Stack) → stack_from (open_of stack) (bottom stack) ≡ stack
stack_back (lowest trees) = refl
stack_back (above outer kind open_span trees) = ap (λ l. above l kind open_span trees) (stack_back outer)

-- the code of an open subtree: its kind, its open span and its trees
abbrev pub open_code : Coded (DelimiterKind × Span × Forest)
open_code = code_by (DelimiterKind × (Span × Forest)) (coded× kind_row.coded (coded× span_row.coded forest_code)) (λ t. (t.0, (t.1, t.2))) (λ p. (p.0, p.1.0, p.1.1)) (λ _. refl)

-- the code of levels: the open subtrees and the lowest trees
abbrev pub stack_code : Coded Stack
stack_code =
    code_by (List (DelimiterKind × Span × Forest) × Forest) (coded× (coded_list open_code) forest_code)
    (λ stack. (open_of stack, bottom stack)) (λ p. stack_from p.0 p.1) stack_back

-- the code of a point: its number and its levels
abbrev pub point_code : Coded Point
point_code = code_by (ℕ × Stack) (coded× coded_ℕ stack_code) (λ p. (p.number, p.stack)) (λ p. record { number = p.0; stack = p.1 }) (λ _. refl)

-- the code of a state: its five parts
abbrev pub builder_code : Coded BuilderState
builder_code =
    code_by ((Delimiter × Stack) × ((Option ℕ × List Point) × ℕ))
    (coded× (coded× delimiter_row.coded stack_code) (coded× (coded× (coded_option coded_ℕ) (coded_list point_code)) coded_ℕ))
    (λ s. ((s.top, s.stack), ((s.mark, s.points), s.taken)))
    (λ p. record { top = p.0.0; stack = p.0.1; mark = p.1.0.0; points = p.1.0.1; taken = p.1.1 })
    (λ _. refl)
