-- Where expressions begin among the trees that they take.
use Rattle.std.specs.Prelude.{◌≡◌, ◌⊎◌, ◌-◌, ◌++◌, ◌==◌, ℕ, Bool, List, [], ◌∷◌, Option, None, Some, map, reverse, if◌then◌else◌}
use Rattle.std.specs.List.{list_any}
use Rattle.tt.specs.Forest.{Forest, end, leaf, node, size}
use Rattle.tt.specs.Gluing.{after_trees}
use Rattle.tt.specs.Moves.{after_tree}
use Rattle.tt.specs.Views.{trees_of}
use Rattle.mbe_grammar.specs.declared.beginning.Beginning.{Beginning as Found}
use Rattle.mbe_grammar.specs.declared.beginning.Cursor.{Cursor as At}
use Rattle.mbe_grammar.specs.declared.event.Event.{Event}
use Rattle.mbe_grammar.specs.declared.event.Event.TheVariants as event
use Rattle.mbe_grammar.specs.declared.rule.Rule.{Rule}
use Rattle.mbe_grammar.specs.Derivations.{Derives, Refuses, Place, whole}
use Rattle.mbe_grammar.specs.Table.{rust_rules}

-- a place among trees: how many tokens come from here to the end of all trees; the trees that are left of the subtree that contains the
-- place; and those behind each subtree around it, the innermost first
pub record Cursor : Type 0 where
  pub left : ℕ
  pub rest : Forest
  pub outer : List Forest

-- the place before the first of all trees
abbrev pub first_cursor : Forest → Cursor
first_cursor trees = record { left = size trees; rest = trees; outer = [] }

-- the place behind so many trees
abbrev pub behind_trees : (count : ℕ) → Cursor → Cursor
behind_trees count at = record { left = at.left - (size at.rest - size (after_trees count at.rest)); rest = after_trees count at.rest; outer = at.outer }

-- the trees of the subtree that comes first; a derivation enters nothing else
abbrev pub held : Forest → Forest
held end = end
held (leaf it rest) = rest
held (node delimiter children rest) = children

-- the place before the first of them
abbrev pub inside : Cursor → Cursor
inside at = record { left = at.left - 1; rest = held at.rest; outer = after_tree at.rest ∷ at.outer }

-- the place behind the subtree that contains the place, of which nothing is left
abbrev pub outside_of : (outer : List Forest) → Cursor → Cursor
outside_of [] at = at
outside_of (rest ∷ outer) at = record { left = at.left; rest = rest; outer = outer }

abbrev pub outside : Cursor → Cursor
outside at = outside_of at.outer at

-- the place behind what an event passes
abbrev pub past_event : Event → Cursor → Cursor
past_event (event.Enter name) at = at
past_event event.Leave at = at
past_event (event.Token count) at = behind_trees count at
past_event event.Open at = inside at
past_event event.Close at = outside at

-- an expression that begins there
pub record Beginning : Type 0 where
  pub name : ℕ
  pub left : ℕ
  pub trees : Forest

-- the number is among some
abbrev pub is_among : List ℕ → ℕ → Bool
is_among numbers wanted = list_any (λ number. number == wanted) numbers

-- the expression that begins there with an event, if its name is wanted
abbrev pub begun : (wanted : List ℕ) → Event → Cursor → List Beginning
begun wanted (event.Enter name) at = if is_among wanted name then record { name = name; left = at.left; trees = at.rest } ∷ [] else []
begun wanted _ at = []

-- the expressions of the wanted names that begin with these events from that place on
abbrev pub beginnings : (wanted : List ℕ) → List Event → Cursor → List Beginning
beginnings wanted [] at = []
beginnings wanted (it ∷ events) at = begun wanted it at ++ beginnings wanted events (past_event it at)

-- where expressions of the wanted names begin if the trees are the expression of that name; none if they are not
abbrev pub AreBeginnings : List Rule → (name : ℕ) → (wanted : List ℕ) → Forest → (found : Option (List Beginning)) → Type 0
AreBeginnings rules name wanted trees (Some found) =
    (events : List Event) × Derives rules name trees events × (found ≡ beginnings wanted events (first_cursor trees))
AreBeginnings rules name wanted trees None = (at : Place) × Refuses rules (whole name trees) at

-- the same by the first of some names that the trees are
abbrev pub AreFirstBeginnings : (names wanted : List ℕ) → Forest → (found : List Beginning) → Type 0
AreFirstBeginnings [] wanted trees found = found ≡ []
AreFirstBeginnings (name ∷ names) wanted trees found =
    AreBeginnings rust_rules name wanted trees (Some found)
    ⊎ (AreBeginnings rust_rules name wanted trees None × AreFirstBeginnings names wanted trees found)

-- what the values of the code mean
abbrev pub beginning_of : Found → Beginning
beginning_of it = record { name = it.name; left = it.left; trees = trees_of it.trees }

abbrev pub cursor_of : At → Cursor
cursor_of at = record { left = at.left; rest = trees_of at.rest; outer = map trees_of (reverse at.outer.items) }
