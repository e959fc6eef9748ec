-- The walk through a list of trees, and a place in it.
use Rattle.std.specs.Prelude.{Bool, true, false, ℕ, suc, ◌+◌, ◌-◌, List, [], ◌∷◌, ◌++◌, take, drop, length, Option, Some, None, refl}
use Rattle.std.specs.Coded.{Coded, code_by, coded×, coded_ℕ}
use Rattle.tt_base.specs.declared.delimiter.Delimiter.{Delimiter}
use Rattle.tt_base.specs.declared.delimiter.Subtree.{Subtree}
use Rattle.tt_base.specs.declared.leaf.Leaf.{Leaf}
use Rattle.tt_base.specs.declared.token_tree.TokenTree.{TokenTree}
use Rattle.tt_base.specs.declared.token_tree.TokenTree.TheVariants as token
use Rattle.tt_base.specs.Forest.{Forest, end, leaf, node, size, flat}
use Rattle.tt_base.specs.Unflat.{forest_code}

-- an event of a walk: a leaf, the start of a node, or its end
pub data Event : Type 0 where
  passes : Leaf → Event
  opens : Subtree → Event
  closes : Subtree → Event

-- the header of a node
abbrev pub subtree_of : Delimiter → ℕ → Subtree
subtree_of delimiter len = record { delimiter = delimiter; len = len }

-- the walk through a list of trees: past each leaf, into each node, through what it holds, and out of it
abbrev pub walk : Forest → List Event
walk end = []
walk (leaf it rest) = passes it ∷ walk rest
walk (node delimiter children rest) =
    opens (subtree_of delimiter (size children)) ∷ (walk children ++ (closes (subtree_of delimiter (size children)) ∷ walk rest))

-- a place in the walk through a list of trees, as the number of events that are passed
pub record Walked : Type 0 where
  pub origin : Forest
  pub place : ℕ

-- at the start
abbrev pub begun : Forest → Walked
begun origin = record { origin = origin; place = 0 }

-- the code of a place, which a model needs
abbrev pub walked_code : Coded Walked
walked_code = code_by (Forest × ℕ) (coded× forest_code coded_ℕ) (λ w. (w.origin, w.place)) (λ p. record { origin = p.0; place = p.1 }) (λ _. refl)

-- the events ahead
abbrev pub events_ahead : Walked → List Event
events_ahead walked = drop walked.place (walk walked.origin)

-- no event is ahead
abbrev pub is_over : List Event → Bool
is_over [] = true
is_over (event ∷ events) = false

-- the next event is the end of a node
abbrev pub is_at_close : List Event → Bool
is_at_close [] = false
is_at_close (passes it ∷ events) = false
is_at_close (opens subtree ∷ events) = false
is_at_close (closes subtree ∷ events) = true

-- the next event is the start of a node
abbrev pub is_at_open : List Event → Bool
is_at_open [] = false
is_at_open (passes it ∷ events) = false
is_at_open (opens subtree ∷ events) = true
is_at_open (closes subtree ∷ events) = false

-- the token of the next event, unless that is the end of a node
abbrev pub token_at : List Event → Option TokenTree
token_at [] = None
token_at (passes it ∷ events) = Some (token.Leaf it)
token_at (opens subtree ∷ events) = Some (token.Subtree subtree)
token_at (closes subtree ∷ events) = None

-- the leaves of the next two events, if both are leaves
abbrev pub two_leaves_at : List Event → Option (List Leaf)
two_leaves_at [] = None
two_leaves_at (opens subtree ∷ events) = None
two_leaves_at (closes subtree ∷ events) = None
two_leaves_at (passes it ∷ []) = None
two_leaves_at (passes it ∷ opens subtree ∷ events) = None
two_leaves_at (passes it ∷ closes subtree ∷ events) = None
two_leaves_at (passes it ∷ passes other ∷ events) = Some (it ∷ other ∷ [])

-- the number of nodes that end in the events and do not start in them
abbrev pub open_nodes : List Event → ℕ
open_nodes [] = 0
open_nodes (passes it ∷ events) = open_nodes events
open_nodes (opens subtree ∷ events) = open_nodes events - 1
open_nodes (closes subtree ∷ events) = suc (open_nodes events)

-- the tokens that the events pass
abbrev pub tokens_of : List Event → List TokenTree
tokens_of [] = []
tokens_of (passes it ∷ events) = token.Leaf it ∷ tokens_of events
tokens_of (opens subtree ∷ events) = token.Subtree subtree ∷ tokens_of events
tokens_of (closes subtree ∷ events) = tokens_of events

-- one, if there is an event
abbrev pub one_if_any : List Event → ℕ
one_if_any [] = 0
one_if_any (event ∷ events) = 1

-- one event further, or the same place at the end
abbrev pub one_on : Walked → Walked
one_on walked = record { origin = walked.origin; place = walked.place + one_if_any (events_ahead walked) }

-- the flat list of the origin without the tokens that were passed
abbrev pub flat_left : Walked → List TokenTree
flat_left walked = drop (length (tokens_of (take walked.place (walk walked.origin)))) (flat walked.origin)
