-- Expansions that are added to a builder.
use Rattle.std.specs.Prelude.{◌≡◌, ◌⊎◌, ℕ, zero, suc, false, Option, None, Some}
use Rattle.tt.specs.Building.{BuilderState, Stack, append, empty_builder, opened, depth}
use Rattle.tt.specs.Forest.{Forest, Root}
use Rattle.tt.specs.Span.{start_of}
use Rattle.tt.specs.Types.Delimiter.{Delimiter}
use Rattle.tt.specs.Types.DelimiterKind.{DelimiterKind}
use Rattle.tt.specs.Types.DelimiterKind.TheVariants.{Invisible}
use Rattle.expand_items.specs.declared.expression.Enclosure.{Enclosure}
use Rattle.expand_items.specs.declared.position.Position.{Position}
use Rattle.expand_text.specs.declared.fault.MacroFault.{MacroFault}
use Rattle.expand_text.specs.declared.invocation.Invocation.{Invocation}
use Rattle.expand_text.specs.CallSites.{CallSite, PutAs, IsMisplaced}
use Rattle.expand_text.specs.Contexts.{Config, Context, with_finding, outside_call}
use Rattle.expand_text.specs.Invocations.{body_of, entered_by, found_by, site_of}
use Rattle.expand_text.specs.Meaning.{ExpandsTo}
use Rattle.expand_text.specs.Outcomes.{Outcome, trees_left, brackets_of}

-- what trees from a position on expand to, with at most so many nested expansions, is added to the innermost level of the builder
pub record AreExpanded (config : Config) (limit : ℕ) (position : Position) (trees : Forest) (old new : Stack) (before after : Context) : Type 0 where
  pub outcome : Outcome
  pub expands_to : ExpandsTo config false limit position 0 before trees after outcome
  pub added : new ≡ append (trees_left outcome) old

-- these trees are added in the place of a call that expands to them; or nothing is added, with the reason why they do not fit there
abbrev pub IsAdded : CallSite → (trees : Forest) → (misplaced : Option MacroFault) → (old new : Stack) → Type 0
IsAdded it trees None old new = (put : Forest) × PutAs it trees (Some put) × (new ≡ append put old)
IsAdded it trees (Some fault) old new = IsMisplaced it trees fault × (new ≡ old)

-- the brackets in which a call's expansion is built in its place, if there are any; unless it is built apart, since it goes under
-- conditions or is refused
abbrev pub brackets_by : (attributes : ℕ) → Enclosure → Option (Option DelimiterKind)
brackets_by zero enclosure = brackets_of enclosure
brackets_by (suc more) enclosure = None

abbrev pub brackets_in : Invocation → Option (Option DelimiterKind)
brackets_in it = brackets_by it.attributes it.enclosure

-- where the expansion of a call is built: in the builder, in such brackets; or apart, and the builder waits
abbrev pub IsBegunBy : Option (Option DelimiterKind) → (call : Delimiter) → (old : BuilderState) → (outer : Option BuilderState) → (new : BuilderState) → Type 0
IsBegunBy None call old outer new = (outer ≡ Some old) × (new ≡ empty_builder (record call { kind = Invisible }))
IsBegunBy (Some None) call old outer new = (outer ≡ None) × (new ≡ old)
IsBegunBy (Some (Some kind)) call old outer new = (outer ≡ None) × (new ≡ opened kind call.open_span old)

abbrev pub IsBegun : Invocation → (old : BuilderState) → (outer : Option BuilderState) → (new : BuilderState) → Type 0
IsBegun it old outer new = IsBegunBy (brackets_in it) it.delimiter old outer new

-- as many subtrees are open as when the expansion of a call began: it can be put in its place
abbrev pub CanEndBy : Option (Option DelimiterKind) → (outer : Option BuilderState) → (depth : ℕ) → Type 0
CanEndBy brackets (Some outer) n = n ≡ 0
CanEndBy None None n = Unit {0}
CanEndBy (Some None) None n = Unit {0}
CanEndBy (Some (Some kind)) None zero = ⊥
CanEndBy (Some (Some kind)) None (suc n) = Unit {0}

-- how many subtrees are open behind it
abbrev pub depth_outside_by : Option (Option DelimiterKind) → (outer : Option BuilderState) → (depth : ℕ) → ℕ
depth_outside_by brackets (Some outer) n = depth outer.stack
depth_outside_by None None n = n
depth_outside_by (Some None) None n = n
depth_outside_by (Some (Some kind)) None zero = zero
depth_outside_by (Some (Some kind)) None (suc n) = n

abbrev pub CanEnd : Invocation → (outer : Option BuilderState) → (depth : ℕ) → Type 0
CanEnd it outer n = CanEndBy (brackets_in it) outer n

abbrev pub depth_outside : Invocation → (outer : Option BuilderState) → (depth : ℕ) → ℕ
depth_outside it outer n = depth_outside_by (brackets_in it) outer n

-- the top of the builder behind it
abbrev pub top_outside : (outer : Option BuilderState) → (top : Delimiter) → Delimiter
top_outside (Some outer) top = outer.top
top_outside None top = top

-- a call of these trees is entered, its expansion is added, and the call is left
pub record IsPlaced (config : Config) (limit : ℕ) (it : Invocation) (whole : Forest) (tree : Root) (misplaced : Option MacroFault) (old new : Stack) (before after : Context) : Type 0 where
  pub inside : Context
  pub outcome : Outcome
  pub expands_to : ExpandsTo config false limit it.position 0 (entered_by config it tree before) (body_of it tree) inside outcome
  pub added : IsAdded (site_of whole it) (trees_left outcome) misplaced old new
  pub behind : after ≡ outside_call before inside

-- these trees are added after a call's attributes, in its place; or all of the call is added, which is found
abbrev pub IsPutOrKept : Invocation → (whole trees : Forest) → (behind after : Context) → (old new : Stack) → Type 0
IsPutOrKept it whole trees behind after old new =
    ((put : Forest) × PutAs (site_of whole it) trees (Some put) × (after ≡ behind) × (new ≡ append put (append (site_of whole it).attributes old)))
    ⊎ ((fault : MacroFault) × IsMisplaced (site_of whole it) trees fault × (after ≡ with_finding (found_by it (start_of it.first_span.range) fault) behind)
    × (new ≡ append whole old))
