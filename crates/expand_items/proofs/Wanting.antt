-- Why a builder does not come to hold a stack.
use Rattle.std.proofs.Common.{◌≡◌, inl, inr, ◌≤◌, true, ap, ⊎_elim, arith}
use Rattle.tt.specs.Building.{BuilderState, Stack, above, append, tokens_held, IsGrowthFault}
use Rattle.tt.specs.Forest.{Forest, end, size}
use Rattle.tt.specs.Types.TtFault.{TtFault}
use Rattle.tt_base.proofs.Appending.{held-append}
use Rattle.tt.specs.Types.Delimiter.{Delimiter}
use Rattle.tt.specs.Types.DelimiterKind.TheVariants.{Brace}
use Rattle.expand_items.specs.Spreads.{put_part, IsWanting}

-- Growth by some trees fails if the stack with them fails.
pub growth_wants : (trees : Forest) (state : BuilderState) (fault : TtFault) → IsGrowthFault (size trees) state fault → IsWanting (append trees state.stack) fault
growth_wants trees state fault why = ⊎_elim (λ memory. inl memory.0) (λ many. inr (many.0, omega (arith, many.1, held-append trees state.stack))) why

-- A stack that holds as many tokens or more fails too.
pub wants_more : (one other : Stack) (fault : TtFault) → tokens_held one ≤ tokens_held other → IsWanting one fault → IsWanting other fault
wants_more one other fault more why = ⊎_elim (λ memory. inl memory) (λ many. inr (many.0, omega (arith, many.1, more))) why

-- The same holds with trees appended.
pub wants_appended : (trees : Forest) (stack : Stack) (fault : TtFault) → IsWanting stack fault → IsWanting (append trees stack) fault
wants_appended trees stack fault why = wants_more stack (append trees stack) fault (omega (arith, held-append trees stack)) why

-- If braces cannot be opened, the stack with them fails.
pub braces_want : (braces : Delimiter) (trees : Forest) (state : BuilderState) (fault : TtFault) → IsGrowthFault 1 state fault
    → IsWanting (append (put_part braces true trees) state.stack) fault
braces_want braces trees state fault why =
    ⊎_elim (λ memory. inl memory.0) (λ many. inr (many.0, omega (arith, many.1, held-append (put_part braces true trees) state.stack))) why

-- If they do not come to hold trees, the stack with both fails.
pub inside_wants : (braces : Delimiter) (trees : Forest) (state inside : BuilderState) (fault : TtFault) → inside.stack ≡ above state.stack Brace braces.open_span end
    → IsGrowthFault (size trees) inside fault → IsWanting (append (put_part braces true trees) state.stack) fault
inside_wants braces trees state inside fault is why =
    ⊎_elim (λ memory. inl memory.0)
    (λ many. inr (many.0, omega (arith, many.1, ap tokens_held is, held-append (put_part braces true trees) state.stack))) why
