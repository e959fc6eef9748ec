-- Expansions that wait for one another.
use Rattle.std.proofs.Common.{◌≡◌, ◌+◌, ◌++◌, ℕ, suc, false, Option, Some, List, [], ◌∷◌, length, refl, ap, sym, subst, subst₂, ◌∙◌}
use Rattle.tt.specs.Building.{BuilderState, Stack, above, append, close_innermost, closed, extended, opened, pushed}
use Rattle.tt.specs.Forest.{Forest, Root, end, leaf}
use Rattle.tt.specs.Gluing.{after_trees}
use Rattle.tt.specs.Types.Delimiter.{Delimiter}
use Rattle.tt.specs.Types.Leaf.{Leaf}
use Rattle.tt.specs.Types.Span.{Span}
use Rattle.expand_items.specs.declared.position.Position.{Position}
use Rattle.expand_text.specs.declared.context.Context as context_in_code
use Rattle.expand_text.specs.declared.context.Outside.{Outside}
use Rattle.expand_text.specs.declared.expanding.Waiting.{Waiting}
use Rattle.expand_text.specs.declared.invocation.Invocation.{Invocation}
use Rattle.expand_text.specs.declared.walk.Walk.{Walk}
use Rattle.expand_text.specs.Contexts.{Config, Context, IsContext, IsOutside, outside_call}
use Rattle.expand_text.specs.Events.{GoesPast}
use Rattle.expand_text.specs.Expanding.{IsBegun, brackets_in, top_outside}
use Rattle.expand_text.specs.Invocations.{body_of, entered_by, site_of}
use Rattle.expand_text.specs.Meaning.{ExpandsTo}
use Rattle.expand_text.specs.Outcomes.{Outcome, nothing, trees_left}
use Rattle.expand_text.specs.Parts.{trees_in}
use Rattle.expand_text.specs.Waiting.{CanGoOn, IsEnded, IsEntered, depth_behind, top_behind, whole_of}
use Rattle.expand_text.specs.Walks.{Level, Ends, Leads, first_leaf, first_stay, first_subtree, first_level, outer_of, levels_of, front_in, past_in, closes_of, work_in}
use Rattle.expand_text.proofs.Finishing.{IsGoing, begins, ends_so, goes_on, goes_into, goes_out, goes_past, finished_leaf, finished_stay}
use Rattle.expand_text.proofs.Placing.{tops_outside}

-- How many subtrees are open: in the innermost expansion as many as when it began and those that its walk is in; and so in those that wait.
abbrev pub AreDeep : (base : ℕ) → List Waiting → (depth : ℕ) → Type 0
AreDeep base [] n = n ≡ base
AreDeep base (it ∷ others) n =
    CanGoOn it n × (m : ℕ) × (suc (depth_behind it n) ≡ length (closes_of (levels_of it.walk)) + m) × AreDeep base others m

-- The tops of the builders.
abbrev pub AreUnder : (base : Delimiter) → List Waiting → (top : Delimiter) → Type 0
AreUnder base [] top = top ≡ base
AreUnder base (it ∷ others) top = AreUnder base others (top_behind it top)

-- A call wrote each.
abbrev pub HaveCallers : List Waiting → Type 0
HaveCallers [] = Unit {0}
HaveCallers (it ∷ others) = ((number : ℕ) × (it.outside.caller ≡ Some number)) × HaveCallers others

-- How much is left to do in those that wait, behind the calls that they wait for.
abbrev pub works : List Waiting → ℕ
works [] = 0
works (it ∷ others) = work_in (past_in it.call.part (levels_of it.walk)) + works others

-- where an expansion began
pub record Base : Type 0 where
  pub position : Position
  pub trees : Forest
  pub begin : Context
  pub state : BuilderState

-- an expansion that began at `outer` waits for that of a call, which began at `base`
pub record IsWaitingWith (config : Config) (limit : ℕ) (walk : Walk) (call : Invocation) (out : Outside) (around : Option BuilderState) (base outer : Base) : Type 0 where
  pub tree : Root
  pub now : Context
  pub others : Context
  pub stack : BuilderState
  pub outside : IsOutside others out
  pub begun : IsBegun call (extended (site_of (front_in call.part (levels_of walk)) call).attributes stack) around base.state
  pub position : base.position ≡ call.position
  pub trees : base.trees ≡ body_of call tree
  pub begin : base.begin ≡ entered_by config call tree others
  pub level : Level
  pub levels : List Level
  pub same : closes_of (levels_of walk) ≡ closes_of (level ∷ levels)
  pub going : IsGoing config (suc limit) outer.position outer.trees outer.begin outer.state.stack (level ∷ levels) now stack.stack
  pub top : stack.top ≡ outer.state.top
  pub goes :
      (inside : Context) (held : Outcome) → ExpandsTo config false limit call.position 0 (entered_by config call tree others) (body_of call tree) inside held
      → GoesPast config false (suc limit) (level ∷ levels) now call (front_in call.part (levels_of walk)) (trees_left held) (past_in call.part (levels_of walk)) (outside_call others inside)

abbrev pub IsWaiting : Config → (limit : ℕ) → Waiting → (base outer : Base) → Type 0
IsWaiting config limit it base outer = IsWaitingWith config limit it.walk it.call it.outside it.outer base outer

-- the innermost level of one that waits, behind the call
abbrev pub past_first : Waiting → Level
past_first it =
    record (first_level it.walk) {
      rest = after_trees (trees_in it.call.part) (first_level it.walk).rest;
      position = it.call.part.position;
      plain = it.call.part.plain;
    }

-- all that wait, the innermost first; the outermost began as `IsFirst` says
abbrev pub AreWaiting : Config → (IsFirst : ℕ → Base → Type 0) → (limit : ℕ) → List Waiting → Base → Type 0
AreWaiting config IsFirst limit [] base = IsFirst limit base
AreWaiting config IsFirst limit (it ∷ others) base = (outer : Base) × IsWaiting config limit it base outer × AreWaiting config IsFirst (suc limit) others outer

-- the innermost expansion goes on, and the others wait
pub record IsStacked (config : Config) (IsFirst : ℕ → Base → Type 0) (limit : ℕ) (waiting : List Waiting) (levels : List Level) (now : Context) (builder : BuilderState) : Type 0 where
  pub base : Base
  pub going : IsGoing config limit base.position base.trees base.begin base.state.stack levels now builder.stack
  pub top : builder.top ≡ base.state.top
  pub waits : AreWaiting config IsFirst limit waiting base

-- One more waits.
pub length_more : (others : List Waiting) (it : Waiting) → length (others ++ it ∷ []) ≡ suc (length others)
length_more [] it = refl
length_more (other ∷ others) it = ap suc (length_more others it)

-- The innermost expansion goes on.
module _ (config : Config) (IsFirst : ℕ → Base → Type 0) (limit : ℕ) (waiting : List Waiting) (level : Level) (outer : List Level) (now others : Context) (builder new : BuilderState) (next : Level) (nexts : List Level)
    (stacked : IsStacked config IsFirst limit waiting (level ∷ outer) now builder) where
  grows : (built : Stack) → IsGoing config limit stacked.base.position stacked.base.trees stacked.base.begin stacked.base.state.stack (next ∷ nexts) others built → new.stack ≡ built → new.top ≡ builder.top
      → IsStacked config IsFirst limit waiting (next ∷ nexts) others new
  grows built going is top =
      record {
        base = stacked.base;
        going = subst (IsGoing config limit stacked.base.position stacked.base.trees stacked.base.begin stacked.base.state.stack (next ∷ nexts) others) (sym is) going;
        top = top ∙ stacked.top;
        waits = stacked.waits;
      }

  pub stack_leaf : (it : Leaf) → Leads config false limit (level ∷ outer) now (first_leaf it) (next ∷ nexts) others → closes_of (next ∷ nexts) ≡ closes_of (level ∷ outer) → new ≡ pushed it builder
      → IsStacked config IsFirst limit waiting (next ∷ nexts) others new
  stack_leaf it leads closes is =
      let base = stacked.base in
      grows (append (leaf it end) builder.stack)
      (goes_on config limit base.position base.trees base.begin now others base.state.stack builder.stack level next outer nexts stacked.going (first_leaf it) (append (leaf it end) builder.stack) leads closes
      (λ first more. finished_leaf level.close (closes_of outer) first more builder.stack it)) (ap (λ b. b.stack) is) (ap (λ b. b.top) is)

  pub stack_stay : (trees : Forest) → Leads config false limit (level ∷ outer) now (first_stay trees) (next ∷ nexts) others → closes_of (next ∷ nexts) ≡ closes_of (level ∷ outer) → new ≡ extended trees builder
      → IsStacked config IsFirst limit waiting (next ∷ nexts) others new
  stack_stay trees leads closes is =
      let base = stacked.base in
      grows (append trees builder.stack)
      (goes_on config limit base.position base.trees base.begin now others base.state.stack builder.stack level next outer nexts stacked.going (first_stay trees) (append trees builder.stack) leads closes
      (λ first more. finished_stay level.close (closes_of outer) first more builder.stack trees)) (ap (λ b. b.stack) is) (ap (λ b. b.top) is)

  pub stack_subtree : (it : Delimiter) → Leads config false limit (level ∷ outer) now (first_subtree it) (next ∷ nexts) others → closes_of (next ∷ nexts) ≡ it.close ∷ closes_of (level ∷ outer)
      → new ≡ opened it.kind it.open_span builder → IsStacked config IsFirst limit waiting (next ∷ nexts) others new
  stack_subtree it leads closes is =
      let base = stacked.base in
      grows (above builder.stack it.kind it.open_span end)
      (goes_into config limit base.position base.trees base.begin now others base.state.stack builder.stack level next outer nexts stacked.going it leads closes) (ap (λ b. b.stack) is) (ap (λ b. b.top) is)

  pub stack_close : (close : Span) → Leads config false limit (level ∷ outer) now (λ outcomes. nothing ∷ outcomes) (next ∷ nexts) others → close ∷ closes_of (next ∷ nexts) ≡ closes_of (level ∷ outer)
      → new ≡ closed close builder → IsStacked config IsFirst limit waiting (next ∷ nexts) others new
  stack_close close leads closes is =
      let base = stacked.base in
      grows (close_innermost close builder.stack)
      (goes_out config limit base.position base.trees base.begin now others base.state.stack builder.stack level next outer nexts stacked.going close leads closes) (ap (λ b. b.stack) is) (ap (λ b. b.top) is)

-- The innermost expansion ends, and the one that waits for it goes on behind the call.
module _ (config : Config) (IsFirst : ℕ → Base → Type 0) (limit : ℕ) (it : Waiting) (waiting : List Waiting) (level : Level) (outer : List Level) (now others : Context) (builder new : BuilderState)
    (stacked : IsStacked config IsFirst limit (it ∷ waiting) (level ∷ outer) now builder) (ended : Ends config false limit (level ∷ outer) now others (nothing ∷ []))
    (before after : context_in_code.Context) (known : IsContext others before) (left : IsEnded it before builder after new) (tops : new.top ≡ top_behind it builder.top) where
  pub stack_pop : (then : Context) × IsContext then after × IsStacked config IsFirst (suc limit) waiting (past_in it.call.part (levels_of it.walk)) then new
  stack_pop =
      let base = stacked.base in
      let (around, waits, more) = stacked.waits in
      let (outcome, came, built) = ends_so config limit base.position base.trees base.begin now others base.state.stack builder.stack level outer stacked.going ended in
      let expands_to : ExpandsTo config false limit it.call.position 0 (entered_by config it.call waits.tree waits.others) (body_of it.call waits.tree) others outcome =
      subst (λ f. ExpandsTo config false limit it.call.position 0 (entered_by config it.call waits.tree waits.others) f others outcome) waits.trees
      (subst (λ k. ExpandsTo config false limit it.call.position 0 k base.trees others outcome) waits.begin
      (subst (λ p. ExpandsTo config false limit p 0 base.begin base.trees others outcome) waits.position came)) in
      let (then, ready, put) = left.ended waits.others others waits.stack base.state (trees_left outcome) waits.outside known waits.begun stacked.top built in
      let waiting_in : BuilderState = extended (site_of (whole_of it) it.call).attributes waits.stack in (
        then,
        ready,
        record {
          base = around;
          going = goes_past config (suc limit) around.position around.trees around.begin waits.now then around.state.stack waits.stack.stack waits.level (past_first it) waits.levels (outer_of it.walk)
              waits.going it.call (whole_of it) (trees_left outcome) (outside_call waits.others others) new.stack (waits.goes others outcome expands_to) put waits.same;
          top = tops ∙ ap (top_outside it.outer) stacked.top ∙ tops_outside it.call.delimiter waiting_in base.state (brackets_in it.call) it.outer waits.begun ∙ waits.top;
          waits = more;
        },
      )

-- A call is entered: the expansion that it is in waits.
module _ (config : Config) (IsFirst : ℕ → Base → Type 0) (left : ℕ) (waiting : List Waiting) (walk : Walk) (level : Level) (levels : List Level) (now others : Context) (builder new : BuilderState)
    (stacked : IsStacked config IsFirst (suc left) waiting (level ∷ levels) now builder) (call : Invocation) (tree : Root) (it : Waiting) (inside : Walk) (before after : context_in_code.Context)
    (known : IsContext others before) (entered : IsEntered config walk call tree builder before it inside new after) (same : closes_of (levels_of walk) ≡ closes_of (level ∷ levels))
    (goes : (within : Context) (held : Outcome) → ExpandsTo config false left call.position 0 (entered_by config call tree others) (body_of call tree) within held
    → GoesPast config false (suc left) (level ∷ levels) now call (front_in call.part (levels_of walk)) (trees_left held) (past_in call.part (levels_of walk)) (outside_call others within)) where
  pub stack_push : IsContext (entered_by config call tree others) after × IsStacked config IsFirst left (it ∷ waiting) (levels_of inside) (entered_by config call tree others) new
  stack_push =
      let (ready, outside) = entered.known others known in
      let base : Base = record { position = call.position; trees = body_of call tree; begin = entered_by config call tree others; state = new } in
      let waits : IsWaitingWith config left walk call it.outside it.outer base stacked.base =
      record {
        tree = tree;
        now = now;
        others = others;
        stack = builder;
        outside = outside;
        begun = entered.begun_with;
        position = refl;
        trees = refl;
        begin = refl;
        level = level;
        levels = levels;
        same = same;
        going = stacked.going;
        top = stacked.top;
        goes = goes;
      } in (
        ready,
        record {
          base = base;
          going = subst (λ ls. IsGoing config left call.position (body_of call tree) (entered_by config call tree others) new.stack ls (entered_by config call tree others) new.stack) (sym entered.levels)
              (begins config left call.position (body_of call tree) (entered_by config call tree others) new.stack call.delimiter.close);
          top = refl;
          waits = (
            stacked.base,
            subst₂ (λ w c. IsWaitingWith config left w c it.outside it.outer base stacked.base) (sym entered.walk_is) (sym entered.call_is) waits,
            stacked.waits,
          );
        },
      )
