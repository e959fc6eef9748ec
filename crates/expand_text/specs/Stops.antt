-- Where a walk is when memory runs out.
use Rattle.std.specs.Prelude.{◌≡◌, ℕ, true, List, [], ◌∷◌, Option, None, Some}
use Rattle.tt.specs.Forest.{Forest}
use Rattle.tt.specs.Span.{start_of}
use Rattle.expand_items.specs.Items.{Call, calls}
use Rattle.expand_items.specs.Positions.{begun as begun_among}
use Rattle.expand_items.specs.declared.position.Siblings.TheVariants.{Items}
use Rattle.expand_text.specs.Contexts.{Config, Context}
use Rattle.expand_text.specs.Meaning.{ExpandsTo, begin_in}
use Rattle.expand_text.specs.Outcomes.{Outcome}
use Rattle.expand_text.specs.Walks.{Level, Ends, IsFirst}
use Rattle.expand_text.specs.declared.next.Choice.{Choice}
use Rattle.expand_text.specs.declared.next.Choice.TheVariants as choice
use Rattle.expand_text.specs.declared.next.Event.{Event}
use Rattle.expand_text.specs.declared.next.Event.TheVariants as event

-- a call comes first at these levels, and begins at that byte, after its attributes
abbrev pub IsCallFirst : Config → List Level → (at : ℕ) → Type 0
IsCallFirst config [] at = ⊥
IsCallFirst config (level ∷ outer) at = (it : Call) × IsFirst (calls it) config level × (at ≡ start_of (begin_in it level.rest).range)

-- a call that is expanded comes first
abbrev pub IsChoiceFirst : Config → List Level → Choice → Type 0
IsChoiceFirst config levels (choice.Plain plain) = Unit {0}
IsChoiceFirst config levels (choice.Stays part) = Unit {0}
IsChoiceFirst config levels (choice.Invocation it tree) = IsCallFirst config levels (start_of it.first_span.range)

abbrev pub IsEventFirst : Config → List Level → Event → Type 0
IsEventFirst config levels (event.Invocation it tree) = IsCallFirst config levels (start_of it.first_span.range)
IsEventFirst config levels other = Unit {0}

-- memory runs out at these levels: while the call that comes first, at that byte, is expanded, or else without a place
abbrev pub IsStop : Config → List Level → (call : Option ℕ) → Type 0
IsStop config levels None = Unit {0}
IsStop config levels (Some at) = IsCallFirst config levels at

-- a walk through the trees of a text comes to these levels: if what is left at them expands, so do the trees
pub record ComesTo (config : Config) (limit : ℕ) (trees : Forest) (before : Context) (levels : List Level) (now : Context) : Type 0 where
  pub leads :
      (after : Context) (outcomes : List Outcome) → Ends config true limit levels now after outcomes
      → (outcome : Outcome) × ExpandsTo config true limit (begun_among Items) 0 before trees after outcome

-- it comes to levels at which a call comes first, which begins at that byte
abbrev pub ComesToCall : Config → (limit : ℕ) → (trees : Forest) → (before : Context) → (at : ℕ) → Type 0
ComesToCall config limit trees before at =
    (levels : List Level) × (now : Context) × ComesTo config limit trees before levels now × IsCallFirst config levels at

-- memory runs out in a walk through the trees of a text: while a call is expanded, or else without a place
abbrev pub IsStopIn : Config → (limit : ℕ) → (trees : Forest) → (before : Context) → (call : Option ℕ) → Type 0
IsStopIn config limit trees before None = Unit {0}
IsStopIn config limit trees before (Some at) = ComesToCall config limit trees before at
