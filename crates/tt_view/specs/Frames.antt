-- The fields of a cursor, and the place in the walk that they mean.
use Rattle.std.specs.Prelude.{◌≡◌, ◌≤◌, ◌-◌, ℕ, List, [], ◌∷◌, ◌++◌, length, reverse}
use Rattle.tt_base.specs.Forest.{Forest, node, size, join}
use Rattle.tt_base.specs.Unflat.{front, behind}
use Rattle.tt_view.specs.Views.{trees_of}
use Rattle.tt_base.specs.Walk.{Event, closes, walk, Walked}
use Rattle.tt_view.specs.declared.cursor.Frame.{Frame}
use Rattle.tt_view.specs.declared.cursor.Cursor.TheInside.{Inside}

-- the events that are left; the open nodes come innermost first, and each one holds the trees ahead except the tokens after it
abbrev pub left : List Frame → Forest → List Event
left [] ahead = walk ahead
left (frame ∷ frames) ahead =
    walk (front (size ahead - frame.behind) ahead) ++ (closes frame.header ∷ left frames (behind (size ahead - frame.behind) ahead))

-- at least as many tokens are ahead as follow the innermost node
abbrev pub IsBelow : List Frame → ℕ → Type 0
IsBelow [] count = Unit {0}
IsBelow (frame ∷ frames) count = frame.behind ≤ count

-- the open nodes are in the origin; each holds the trees that were passed in it and those of it that are ahead, and begins at the place
-- that the nodes around it give
abbrev pub Stands : Forest → List Frame → Forest → Type 0
Stands origin [] ahead = (passed : Forest) × (origin ≡ join passed ahead)
Stands origin (frame ∷ frames) ahead =
    (passed : Forest) × (inner : Forest) × (outer : Forest) × (ahead ≡ join inner outer) × (size outer ≡ frame.behind)
    × (frame.header.len ≡ size (join passed inner)) × IsBelow frames frame.behind
    × Stands origin frames (node frame.header.delimiter (join passed inner) outer)

-- the open nodes, innermost first
abbrev pub frames_of : Inside → List Frame
frames_of cursor = reverse cursor.stack.items

-- the events that a cursor has left
abbrev pub events_left : Inside → List Event
events_left cursor = left (frames_of cursor) (cursor.ahead)

-- the place in the walk
abbrev pub walked : Inside → Walked
walked cursor = record { origin = trees_of cursor.origin; place = length (walk (trees_of cursor.origin)) - length (events_left cursor) }

-- the fields mean a place in the walk
abbrev pub StandsInWalk : Inside → Type 0
StandsInWalk cursor = Stands (trees_of cursor.origin) (frames_of cursor) (cursor.ahead)
