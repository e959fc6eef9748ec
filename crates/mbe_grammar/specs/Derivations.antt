-- What took each token of some trees, and where trees are refused.
use Rattle.std.specs.Prelude.{◌≡◌, ◌⊎◌, ◌++◌, ℕ, zero, suc, Bool, true, false, List, [], ◌∷◌, Option, None, Some}
use Rattle.tt.specs.Forest.{Forest, end}
use Rattle.tt.specs.Types.Span.{Span}
use Rattle.tt.specs.Views.{trees_of}
use Rattle.mbe_grammar.specs.declared.derivation.Derived.{Derived}
use Rattle.mbe_grammar.specs.declared.derivation.Derived.TheVariants as derived
use Rattle.mbe_grammar.specs.declared.event.Event.{Event}
use Rattle.mbe_grammar.specs.declared.event.Event.TheVariants as event
use Rattle.mbe_grammar.specs.declared.event.Level.{Level}
use Rattle.mbe_grammar.specs.declared.rule.Rule.{Rule}
use Rattle.mbe_grammar.specs.Parses.{Parses}
use Rattle.mbe_grammar.specs.Positions.{Entry, Position, enters, leaves, takes_unit, holds, first_position}

-- events of trees that must be the expression of a name
abbrev pub Deriving : Type 1
Deriving = (name : ℕ) → (trees : Forest) → (events : List Event) → Type 0

-- the events of a log, if `P` gives those of the trees of its subtrees
abbrev pub Spread : (P : Deriving) → List Entry → (events : List Event) → Type 0
Spread P [] events = events ≡ []
Spread P (enters name ∷ log) events = (rest : List Event) × Spread P log rest × (events ≡ event.Enter name ∷ rest)
Spread P (leaves ∷ log) events = (rest : List Event) × Spread P log rest × (events ≡ event.Leave ∷ rest)
Spread P (takes_unit count ∷ log) events = (rest : List Event) × Spread P log rest × (events ≡ event.Token count ∷ rest)
Spread P (holds trees close name ∷ log) events =
    (inner : List Event) × (rest : List Event) × P name trees inner × Spread P log rest × (events ≡ event.Open ∷ inner ++ event.Close ∷ rest)

-- the trees are the expression of that name, with these events, and not deeper: the expression takes all of them, and in each subtree that
-- it took by a name the trees are the expression of that name
abbrev pub DerivesIn : List Rule → (depth : ℕ) → Deriving
DerivesIn rules zero name trees events = ⊥
DerivesIn rules (suc depth) name trees events =
    (to : Position) × Parses true rules name (first_position trees) (Some to) × (to.rest ≡ end) × Spread (DerivesIn rules depth) to.log events

-- the trees are the expression of that name, with these events
unfoldable pub Derives : List Rule → Deriving
Derives rules name trees events = (depth : ℕ) × DerivesIn rules depth name trees events

-- the trees of a file or of a subtree, the span of the subtree's closing delimiter, and the name of the expression that the trees must be
pub record Place : Type 0 where
  pub trees : Forest
  pub close : Option Span
  pub name : ℕ

-- the place of a file
abbrev pub whole : (name : ℕ) → Forest → Place
whole name trees = record { trees = trees; close = None; name = name }

-- the place of a subtree
abbrev pub inside : Forest → Span → (name : ℕ) → Place
inside trees close name = record { trees = trees; close = Some close; name = name }

-- a log has this refused place first: the trees of a subtree are refused there, and those of each earlier subtree have events; or those of
-- each subtree have events, the expression stops before the end, and the place is its own
abbrev pub StopsAt : (P : Deriving) → (Q : (own at : Place) → Type 0) → (stops : Type 0) → (own : Place) → List Entry → Place → Type 0
StopsAt P Q stops own [] at = stops × (at ≡ own)
StopsAt P Q stops own (enters name ∷ log) at = StopsAt P Q stops own log at
StopsAt P Q stops own (leaves ∷ log) at = StopsAt P Q stops own log at
StopsAt P Q stops own (takes_unit count ∷ log) at = StopsAt P Q stops own log at
StopsAt P Q stops own (holds trees close name ∷ log) at = Q (inside trees close name) at ⊎ ((events : List Event) × P name trees events × StopsAt P Q stops own log at)

-- the trees of a place are not the expression of its name, and this is the first place in reading order where trees are refused, and not
-- deeper
abbrev pub RefusesIn : List Rule → (depth : ℕ) → (own at : Place) → Type 0
RefusesIn rules zero own at = ⊥
RefusesIn rules (suc depth) own at =
    (Parses true rules own.name (first_position own.trees) None × (at ≡ own))
    ⊎ ((to : Position) × Parses true rules own.name (first_position own.trees) (Some to)
    × StopsAt (Derives rules) (RefusesIn rules depth) (to.rest ≡ end → ⊥) own to.log at)

unfoldable pub Refuses : List Rule → (own at : Place) → Type 0
Refuses rules own at = (depth : ℕ) × RefusesIn rules depth own at

-- the place of a level
abbrev pub place : Level → Place
place it = record { trees = trees_of it.trees; close = it.close; name = it.name }

-- the outcome for trees that must be the expression of a name
abbrev pub IsDerived : List Rule → (name : ℕ) → Forest → Derived → Type 0
IsDerived rules name trees (derived.Whole events) = Derives rules name trees events.items
IsDerived rules name trees (derived.Refused level) = Refuses rules (whole name trees) (place level)

-- whether the trees are the expression of that name: they have events, or are refused somewhere
abbrev pub IsJudged : List Rule → (name : ℕ) → Forest → Bool → Type 0
IsJudged rules name trees true = (events : List Event) × Derives rules name trees events
IsJudged rules name trees false = (at : Place) × Refuses rules (whole name trees) at

-- the expression takes that many of the trees from the first on, and in each subtree that it takes by a name the trees are the expression
-- of that name; none if it fails, or if the trees of such a subtree are refused
abbrev pub TakesDeep : List Rule → (name : ℕ) → Forest → (count : Option ℕ) → Type 0
TakesDeep rules name trees (Some count) =
    (to : Position) × Parses true rules name (first_position trees) (Some to) × (count ≡ to.passed) × (events : List Event) × Spread (Derives rules) to.log events
TakesDeep rules name trees None =
    Parses true rules name (first_position trees) None
    ⊎ ((to : Position) × Parses true rules name (first_position trees) (Some to) × (at : Place) × StopsAt (Derives rules) (Refuses rules) ⊥ (whole name trees) to.log at)
