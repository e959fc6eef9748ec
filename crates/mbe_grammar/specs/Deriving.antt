-- A derivation that is under way: what is left to read, and its outcome.
use Rattle.std.specs.Prelude.{◌≡◌, ◌⊎◌, ◌+◌, ◌*◌, ◌^◌, ◌++◌, ◌<◌, ◌≤◌, ℕ, suc, Bool, true, false, List, [], ◌∷◌, length, reverse, Option, None, Some}
use Rattle.tt.specs.Forest.{size}
use Rattle.tt.specs.Types.Span.{Span}
use Rattle.tt.specs.Views.{trees_of}
use Rattle.mbe_grammar.specs.declared.derivation.Derivation.{Derivation}
use Rattle.mbe_grammar.specs.declared.derivation.Open.{Open}
use Rattle.mbe_grammar.specs.declared.derivation.NextEvent.{NextEvent}
use Rattle.mbe_grammar.specs.declared.derivation.NextEvent.TheVariants as next
use Rattle.mbe_grammar.specs.declared.entry.Entry.{Entry}
use Rattle.mbe_grammar.specs.declared.entry.Entry.TheVariants as entry
use Rattle.mbe_grammar.specs.declared.event.Event.{Event}
use Rattle.mbe_grammar.specs.declared.event.Event.TheVariants as event
use Rattle.mbe_grammar.specs.declared.event.Level.{Level}
use Rattle.mbe_grammar.specs.declared.rule.Rule.{Rule}
use Rattle.mbe_grammar.specs.Derivations.{Derives, Place, Refuses, place}
use Rattle.mbe_grammar.specs.Derivations as derivation
use Rattle.mbe_grammar.specs.Left.{Left, around, inside}
use Rattle.mbe_grammar.specs.Left as left

-- the events of what is left, the next first
abbrev pub Gives : List Rule → List Left → (events : List Event) → Type 0
Gives rules [] events = events ≡ []
Gives rules (left.noted (entry.Enter name) ∷ others) events = (rest : List Event) × Gives rules others rest × (events ≡ event.Enter name ∷ rest)
Gives rules (left.noted entry.Leave ∷ others) events = (rest : List Event) × Gives rules others rest × (events ≡ event.Leave ∷ rest)
Gives rules (left.noted (entry.Unit count) ∷ others) events = (rest : List Event) × Gives rules others rest × (events ≡ event.Token count ∷ rest)
Gives rules (left.noted (entry.Holds trees close name) ∷ others) events =
    (inner : List Event) × (rest : List Event) × Derives rules name (trees_of trees) inner × Gives rules others rest × (events ≡ event.Open ∷ inner ++ event.Close ∷ rest)
Gives rules (left.closes ∷ others) events = (rest : List Event) × Gives rules others rest × (events ≡ event.Close ∷ rest)
Gives rules (left.stops it ∷ others) events = ⊥

-- the first place in what is left where trees are refused
abbrev pub Stops : List Rule → List Left → Place → Type 0
Stops rules [] at = ⊥
Stops rules (left.noted (entry.Enter name) ∷ others) at = Stops rules others at
Stops rules (left.noted entry.Leave ∷ others) at = Stops rules others at
Stops rules (left.noted (entry.Unit count) ∷ others) at = Stops rules others at
Stops rules (left.noted (entry.Holds trees close name) ∷ others) at =
    Refuses rules (derivation.inside (trees_of trees) close name) at ⊎ ((events : List Event) × Derives rules name (trees_of trees) events × Stops rules others at)
Stops rules (left.closes ∷ others) at = Stops rules others at
Stops rules (left.stops it ∷ others) at = at ≡ place it

-- the same with a level before it
abbrev pub GivesBehind : List Rule → Place → List Left → (events : List Event) → Type 0
GivesBehind rules it others events =
    (inner : List Event) × (rest : List Event) × Derives rules it.name it.trees inner × Gives rules others rest × (events ≡ inner ++ rest)

abbrev pub StopsBehind : List Rule → Place → List Left → Place → Type 0
StopsBehind rules it others at = Refuses rules it at ⊎ ((events : List Event) × Derives rules it.name it.trees events × Stops rules others at)

-- the number of tokens in the levels that are left, and one more for each level
abbrev pub weight : List Left → ℕ
weight [] = 0
weight (left.noted (entry.Holds trees close name) ∷ others) = suc (size (trees_of trees) + weight others)
weight (_ ∷ others) = weight others

-- a level was read. If its expression fails, its trees are refused; else what is left then gives what the level and the others give
abbrev pub IsRead : List Rule → Place → (before : List Left) → (after : Option (List Left)) → Type 0
IsRead rules it before (Some after) =
    ((events : List Event) → Gives rules after events → GivesBehind rules it before events)
    × ((at : Place) → Stops rules after at → StopsBehind rules it before at)
    × (weight after < suc (size it.trees + weight before))
IsRead rules it before None = Refuses rules it it

-- the events ahead: those of a level that was not read yet, if there is one, and of what is left
abbrev pub GivesFrom : List Rule → Option Level → List Left → (events : List Event) → Type 0
GivesFrom rules None left events = Gives rules left events
GivesFrom rules (Some it) left events = GivesBehind rules (place it) left events

-- the first place ahead where trees are refused
abbrev pub StopsFrom : List Rule → Option Level → List Left → Place → Type 0
StopsFrom rules None left at = Stops rules left at
StopsFrom rules (Some it) left at = StopsBehind rules (place it) left at

-- what is left behind the level that is read next: of a file nothing; of a subtree its end, and what is left of the levels around it
abbrev pub behind_level : (close : Option Span) → (log : List Entry) → Open → List Open → List Left
behind_level None log inner older = []
behind_level (Some close) log inner older = around log (inner ∷ older)

-- what is left ahead of a derivation, but for the level that is read next
abbrev pub left_by : Option Level → (log : List Entry) → Open → List Open → List Left
left_by None log inner older = inside log inner older
left_by (Some it) log inner older = behind_level it.close log inner older

abbrev pub left_of : Derivation → List Left
left_of it = left_by it.level it.log.items it.inner (reverse it.around.items)

-- the derivation has these events ahead
abbrev pub GivesAhead : Derivation → (events : List Event) → Type 0
GivesAhead it events = GivesFrom it.table.rules.now it.level (left_of it) events

-- the derivation has this place ahead, as the first where trees are refused
abbrev pub StopsAhead : Derivation → Place → Type 0
StopsAhead it at = StopsFrom it.table.rules.now it.level (left_of it) at

-- a number that each event lowers: tokens in levels that are left count most, then what is left of the levels that were read
abbrev pub steps_of : Option Level → List Left → ℕ
steps_of None left = 2 ^ 66 * weight left + 2 * length left + 1
steps_of (Some it) left = 2 ^ 66 * suc (size (trees_of it.trees) + weight left) + 2 * length left

abbrev pub steps_ahead : Derivation → ℕ
steps_ahead it = steps_of it.level (left_of it)

-- what comes next in a derivation, and the derivation behind it
abbrev pub IsNext : (old : Derivation) → NextEvent → (new : Derivation) → Type 0
IsNext old (next.Event it) new =
    ((events : List Event) → GivesAhead new events → GivesAhead old (it ∷ events)) × ((at : Place) → StopsAhead new at → StopsAhead old at) × (steps_ahead new < steps_ahead old)
IsNext old next.End new = GivesAhead old []
IsNext old (next.Refused level) new = StopsAhead old (place level)

-- the event of an entry that is no subtree to be read
abbrev pub plain_event : Option Entry → Option Event
plain_event (Some (entry.Enter name)) = Some (event.Enter name)
plain_event (Some entry.Leave) = Some event.Leave
plain_event (Some (entry.Unit count)) = Some (event.Token count)
plain_event (Some (entry.Holds trees close name)) = None
plain_event None = None

-- the next events of a derivation were added to a list, and it is then behind them
abbrev pub IsPassed : (old : Derivation) → (before : List Event) → (new : Derivation) → (after : List Event) → Type 0
IsPassed old before new after =
    (passed : List Event) × (after ≡ before ++ passed) × ((events : List Event) → GivesAhead new events → GivesAhead old (passed ++ events))
    × ((at : Place) → StopsAhead new at → StopsAhead old at) × (steps_ahead new ≤ steps_ahead old)

-- the level that is read next was read, without an event; or its expression fails
abbrev pub IsEntered : (old : Derivation) → Level → (yes : Bool) → (new : Derivation) → Type 0
IsEntered old level true new =
    (new.level ≡ None) × ((events : List Event) → GivesAhead new events → GivesAhead old events) × ((at : Place) → StopsAhead new at → StopsAhead old at)
    × (steps_ahead new < steps_ahead old)
IsEntered old level false new = StopsAhead old (place level)

-- a derivation has the same ahead
abbrev pub IsSameAhead : (old new : Derivation) → Type 0
IsSameAhead old new =
    (new.table.rules.now ≡ old.table.rules.now) × (new.level ≡ old.level) × (new.log.items ≡ old.log.items) × (new.inner ≡ old.inner) × (new.around.items ≡ old.around.items)
