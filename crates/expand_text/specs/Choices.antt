-- What becomes of the trees that come first.
use Rattle.std.specs.Prelude.{◌<◌, ◌≤◌, ℕ, Bool, suc, List, [], ◌∷◌}
use Rattle.tt.specs.Forest.{size}
use Rattle.expand_text.specs.declared.next.Choice.{Choice}
use Rattle.expand_text.specs.declared.next.Choice.TheVariants as choice
use Rattle.expand_text.specs.Contexts.{Config, Context}
use Rattle.expand_text.specs.Events.{IsExpandedAt}
use Rattle.expand_text.specs.Meaning.{IsPlain}
use Rattle.expand_text.specs.Walks.{Level, Leads, first_stay, front_in, past_in, with_plain, work_in}

-- the first tree may be taken as it is, with so many in all
abbrev pub IsFirstPlain : Config → Context → ℕ → List Level → Type 0
IsFirstPlain config context plain [] = Unit {0}
IsFirstPlain config context plain (level ∷ outer) = IsPlain config context level.position plain level.rest

-- what becomes of the trees that come first at these levels, and what is known then
abbrev pub IsChosen : Config → (in_text : Bool) → (limit : ℕ) → List Level → Context → Choice → Context → Type 0
IsChosen config in_text limit levels context (choice.Plain plain) others =
    Leads config in_text limit levels context (λ outcomes. outcomes) (with_plain plain levels) others × IsFirstPlain config others plain levels
IsChosen config in_text limit levels context (choice.Stays part) others =
    Leads config in_text limit levels context (first_stay (front_in part levels)) (past_in part levels) others
IsChosen config in_text limit levels context (choice.Invocation it tree) others = IsExpandedAt config in_text limit levels context it tree levels others

-- behind a part or a call less is left to do
abbrev pub Advances : List Level → Choice → Type 0
Advances levels (choice.Plain plain) = Unit {0}
Advances levels (choice.Stays part) = work_in (past_in part levels) < work_in levels
Advances levels (choice.Invocation it tree) = suc (work_in (past_in it.part levels)) < work_in levels

-- a call is expanded only if one expansion more is allowed, and so many tokens
abbrev pub IsChoiceWithin : (limit allowed : ℕ) → Choice → Type 0
IsChoiceWithin limit allowed (choice.Plain plain) = Unit {0}
IsChoiceWithin limit allowed (choice.Stays part) = Unit {0}
IsChoiceWithin limit allowed (choice.Invocation it tree) = (0 < limit) × (size tree.children ≤ allowed)
