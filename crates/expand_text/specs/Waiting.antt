-- Expansions that wait for those of calls in them.
use Rattle.std.specs.Prelude.{◌≡◌, ◌-◌, ℕ, ◌∷◌, []}
use Rattle.tt.specs.Building.{BuilderState, append, extended}
use Rattle.tt.specs.Forest.{Forest, Root, size}
use Rattle.tt.specs.Types.Delimiter.{Delimiter}
use Rattle.expand_text.specs.declared.context.Context as context_in_code
use Rattle.expand_text.specs.declared.expanding.Waiting.{Waiting}
use Rattle.expand_text.specs.declared.invocation.Invocation.{Invocation}
use Rattle.expand_text.specs.declared.walk.Walk.{Walk}
use Rattle.expand_text.specs.Contexts.{Config, Context, HasCaller, IsContext, IsOutside, outside_call, tokens_by}
use Rattle.expand_text.specs.Expanding.{CanEnd, IsBegun, IsPutOrKept, depth_outside, top_outside}
use Rattle.expand_text.specs.Invocations.{body_of, entered_by, site_of}
use Rattle.expand_text.specs.Walks.{begun, front_in, levels_of}

-- the trees of the call
abbrev pub whole_of : Waiting → Forest
whole_of it = front_in it.call.part (levels_of it.walk)

-- an expansion waits for that of the call that comes first in it: its attributes are added, and it is entered
pub record IsEntered (config : Config) (walk : Walk) (call : Invocation) (tree : Root) (old : BuilderState) (before : context_in_code.Context) (waiting : Waiting) (inside : Walk) (new : BuilderState) (after : context_in_code.Context) : Type 0 where
  pub walk_is : waiting.walk ≡ walk
  pub call_is : waiting.call ≡ call
  pub begun_with : IsBegun call (extended (site_of (front_in call.part (levels_of walk)) call).attributes old) waiting.outer new
  pub levels : levels_of inside ≡ begun call.position (body_of call tree) call.delimiter.close ∷ []
  pub known : (context : Context) → IsContext context before → IsContext (entered_by config call tree context) after × IsOutside context waiting.outside
  pub caller : HasCaller after
  pub before_is : waiting.outside.caller ≡ before.caller
  pub left : after.left ≡ tokens_by before.caller config.max_tokens before.left - size tree.children

-- what was built fits the place, by the number of open subtrees
abbrev pub CanGoOn : Waiting → (depth : ℕ) → Type 0
CanGoOn it n = CanEnd it.call it.outer n

abbrev pub depth_behind : Waiting → (depth : ℕ) → ℕ
depth_behind it n = depth_outside it.call it.outer n

abbrev pub top_behind : Waiting → (top : Delimiter) → Delimiter
top_behind it top = top_outside it.outer top

-- the call is left, and the expansion built for it is put in its place, or the call stays: `stack` was built before the call, and then `begun`
-- and `trees` for it
pub record IsEnded (it : Waiting) (before : context_in_code.Context) (old : BuilderState) (after : context_in_code.Context) (new : BuilderState) : Type 0 where
  pub ended :
      (context inside : Context) (stack begun_state : BuilderState) (trees : Forest) → IsOutside context it.outside → IsContext inside before
      → IsBegun it.call (extended (site_of (whole_of it) it.call).attributes stack) it.outer begun_state
      → old.top ≡ begun_state.top → old.stack ≡ append trees begun_state.stack
      → (then : Context) × IsContext then after × IsPutOrKept it.call (whole_of it) trees (outside_call context inside) then stack.stack new.stack
