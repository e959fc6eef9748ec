-- The answer of a command on the builder, and the state after it.
use Rattle.std.specs.Prelude.{◌≡◌, ◌⊎◌, ◌<◌, ◌+◌, ◌-◌, ◌^◌, ℕ, List, ◌∷◌, ◌++◌, Option, None, Some, codes, decimal, if◌then◌else◌, is_some}
use Rattle.std.specs.List.{flat_map}
use Rattle.tt.specs.Building.{BuilderState, Stack, lowest, above, HasRoom, most_held, tokens_held, open_kinds, closed, extended, noted, point_taken, restored}
use Rattle.tt.specs.Forest.{Forest, Root, size}
use Rattle.tt.specs.HeldUses.{distinct_parts, distinct_symbols}
use Rattle.tt.specs.Stored.{IsWithinLimits}
use Rattle.tt.specs.TreeFault.{IsTreeFault}
use Rattle.tt_base.specs.declared.delimiter.DelimiterKind.{DelimiterKind}
use Rattle.tt_base.specs.declared.fault.TtFault.{TtFault}
use Rattle.tt_base.specs.declared.fault.TtFault.TheVariants.{TooManyTokens, PointsSpent}
use Rattle.tt_base.specs.declared.span.Span.{Span}
use Rattle.app_language.specs.Token.{kind_word}
use Rattle.app_console.specs.Answer.{line, ok_line, empty_line, yes_line, no_line, fault_line, no_builder_line, none_open_line, still_open_line}
use Rattle.app_console.specs.State.{State, with_builder, with_tree}

-- this holds for the builder; without one, that is the answer and nothing changes
abbrev pub OfBuilder : (BuilderState → Type 0) → State → Option BuilderState → List ℕ → State → Type 0
OfBuilder P old None answer new = (answer ≡ no_builder_line) × (new ≡ old)
OfBuilder P old (Some builder) answer new = P builder

-- this holds for the tree; without one, the slot is empty and nothing changes
abbrev pub OfTree : (Root → Type 0) → State → Option Root → List ℕ → State → Type 0
OfTree P old None answer new = (answer ≡ empty_line) × (new ≡ old)
OfTree P old (Some root) answer new = P root

-- the builder takes so many tokens and becomes the next one, or refuses them because it has no room
abbrev pub Grows : ℕ → BuilderState → BuilderState → State → List ℕ → State → Type 0
Grows more builder next old answer new =
    (HasRoom more builder × (answer ≡ ok_line) × (new ≡ with_builder old next))
    ⊎ ((most_held < tokens_held builder.stack + more) × (answer ≡ fault_line TooManyTokens) × (new ≡ old))

-- the builder takes trees, as they are or with their last token changed
abbrev pub Appends : Forest → Forest → BuilderState → State → List ℕ → State → Type 0
Appends trees taken builder = Grows (size trees) builder (extended taken builder)

-- the innermost open subtree is closed, if there is one
abbrev pub Closes : Span → BuilderState → Stack → State → List ℕ → State → Type 0
Closes span builder (lowest trees) old answer new = (answer ≡ none_open_line) × (new ≡ old)
Closes span builder (above outer kind open_span trees) old answer new = (answer ≡ ok_line) × (new ≡ with_builder old (closed span builder))

-- `point`, and the number
abbrev pub point_line : ℕ → List ℕ
point_line number = line (codes "point " ++ decimal number)

-- a restore point is taken, while there are numbers left
abbrev pub Points : BuilderState → State → List ℕ → State → Type 0
Points builder old answer new =
    ((builder.taken < 2 ^ 64 - 1) × (answer ≡ point_line builder.taken) × (new ≡ with_builder old (point_taken builder)))
    ⊎ ((builder.taken ≡ 2 ^ 64 - 1) × (answer ≡ fault_line PointsSpent) × (new ≡ old))

-- yes if the point exists
abbrev pub Restores : ℕ → BuilderState → State → List ℕ → State → Type 0
Restores number builder old answer new =
    (answer ≡ (if is_some (noted number builder.points) then yes_line else no_line)) × (new ≡ with_builder old (restored number builder))

-- a space, and the kind
abbrev pub expected_kind : DelimiterKind → List ℕ
expected_kind kind = 32 ∷ kind_word kind

-- the kinds of the open subtrees, innermost first
abbrev pub expected_text : BuilderState → List ℕ
expected_text builder = line (codes "expected" ++ flat_map expected_kind (open_kinds builder.stack))

-- `counts`, and two numbers
abbrev pub counts_line : ℕ → ℕ → List ℕ
counts_line parts symbols = line (codes "counts " ++ decimal parts ++ codes " " ++ decimal symbols)

-- how many different span parts and symbols the held tokens use
abbrev pub counts_text : BuilderState → List ℕ
counts_text builder = counts_line (distinct_parts builder.stack) (distinct_symbols builder.stack)

-- the tree goes to the slot and the builder is removed, if the tree is within the limits; otherwise both stay
abbrev pub MakesRoot : Root → ℕ → State → List ℕ → State → Type 0
MakesRoot root slot old answer new =
    (IsWithinLimits root × (answer ≡ ok_line) × (new ≡ record (with_tree old slot root) { builder = None }))
    ⊎ ((fault : TtFault) × IsTreeFault root fault × (answer ≡ fault_line fault) × (new ≡ old))

-- the tree is made of the builder, if no subtree is open
abbrev pub Builds : Root → ℕ → Stack → State → List ℕ → State → Type 0
Builds root slot (lowest trees) old answer new = MakesRoot root slot old answer new
Builds root slot (above outer kind open_span trees) old answer new = (answer ≡ still_open_line) × (new ≡ old)
