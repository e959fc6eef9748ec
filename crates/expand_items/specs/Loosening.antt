-- Opaque subtrees that need no parentheses in their places.
use Rattle.std.specs.Prelude.{◌||◌, ◌&&◌, not, Bool, true, false, if◌then◌else◌}
use Rattle.tt.specs.Forest.{Forest, end, leaf, node}
use Rattle.tt.specs.Siblings.{is_end}
use Rattle.tt.specs.Types.DelimiterKind.{DelimiterKind}
use Rattle.tt.specs.Types.DelimiterKind.TheVariants as delimited
use Rattle.tt.specs.Types.Leaf.{Leaf}
use Rattle.tt.specs.Types.Leaf.TheVariants as leaf_of
use Rattle.expand_items.specs.declared.expression.Enclosure.{Enclosure}
use Rattle.expand_items.specs.declared.expression.Enclosure.TheVariants as enclosed
use Rattle.expand_items.specs.declared.front.Front.{Front}
use Rattle.expand_items.specs.declared.front.Front.TheVariants as front
use Rattle.expand_items.specs.declared.loosening.Place.{Place}
use Rattle.expand_items.specs.declared.position.Position.{Position}
use Rattle.expand_items.specs.Expressions.{are_statements, fits_before, is_at_assignment, is_split}
use Rattle.expand_items.specs.Fronts.{front_behind, front_behind_ident, front_behind_kind, is_begun, is_cast, is_colon, is_free}
use Rattle.expand_items.specs.Operands.{belong_together}
use Rattle.mbe_pattern.specs.Units.{is_brace}

-- the place of the first tree of an expansion, with the position before it: an expansion in brackets may have anything beside it
abbrev pub place_of : Enclosure → Position → Place
place_of enclosed.Bare position = record { front = position.front; ends = true }
place_of enclosed.Opaque position = record { front = front.Bound; ends = false }
place_of enclosed.Parentheses position = record { front = front.Bound; ends = false }
place_of enclosed.Refused position = record { front = front.Bound; ends = false }

-- what precedes the tree after a leaf
abbrev pub front_behind_leaf : Leaf → Front → Front
front_behind_leaf (leaf_of.Literal it) before = front.Bound
front_behind_leaf (leaf_of.Punct it) before = front_behind it before
front_behind_leaf (leaf_of.Ident it) before = front_behind_ident it.is_raw it.sym

-- the place after a leaf, and that after a subtree of a kind
abbrev pub place_behind_leaf : Leaf → Place → Place
place_behind_leaf it place = record place { front = front_behind_leaf it place.front }

abbrev pub place_behind : DelimiterKind → Place → Place
place_behind kind place = record place { front = front_behind_kind kind }

-- what follows the tree before these is known
abbrev pub is_known : Place → (behind : Forest) → Bool
is_known place behind = place.ends || not (is_end behind)

-- nothing behind an expression or a type of these trees takes a part of it: a type may also end before `=`
abbrev pub ends_before : (trees behind : Forest) → Place → Bool
ends_before trees behind place = fits_before trees behind || (is_colon place.front && is_at_assignment behind)

-- nothing beside it does
abbrev pub is_apart : (trees behind : Forest) → Place → Bool
is_apart trees behind place =
    is_known place behind && (ends_before trees behind place && (is_free place.front || (is_begun place.front && not (is_split trees))))

-- these trees mean the same in that place with or without parentheses, or are statements, which have none
abbrev pub is_loose : (trees behind : Forest) → Place → Bool
is_loose trees behind place = is_apart trees behind place || (are_statements trees || (is_known place behind && belong_together trees behind))

-- an opaque subtree of such trees is an invisible one; that of another type after `as` gets its parentheses here, since one of a single
-- token is written without
abbrev pub loosened_kind : (is_loose is_cast : Bool) → DelimiterKind → DelimiterKind
loosened_kind loose cast delimited.Parenthesis = delimited.Parenthesis
loosened_kind loose cast delimited.Brace = delimited.Brace
loosened_kind loose cast delimited.Bracket = delimited.Bracket
loosened_kind loose cast delimited.Invisible = delimited.Invisible
loosened_kind loose cast delimited.InvisibleOpaque =
    if loose then delimited.Invisible else (if cast then delimited.Parenthesis else delimited.InvisibleOpaque)

-- the kind that a subtree of these trees has in that place
abbrev pub kind_in : (trees behind : Forest) → Place → DelimiterKind → DelimiterKind
kind_in trees behind place kind = loosened_kind (is_loose trees behind place) (is_cast place.front) kind

-- the place of the first tree in brackets of a kind: a statement may begin in braces; nothing precedes it in others
abbrev pub first_place : DelimiterKind → Place
first_place kind = record { front = if is_brace kind then front.Start else front.Free; ends = true }

-- that in an invisible subtree: what is beside the subtree is beside its first and its last tree
abbrev pub first_place_within : (is_apart : Bool) → Place → Place
first_place_within true place = record place { ends = true }
first_place_within false place = record { front = front.Bound; ends = false }

abbrev pub first_place_in : DelimiterKind → (is_apart : Bool) → Place → Place
first_place_in delimited.Parenthesis apart place = first_place delimited.Parenthesis
first_place_in delimited.Brace apart place = first_place delimited.Brace
first_place_in delimited.Bracket apart place = first_place delimited.Bracket
first_place_in delimited.Invisible apart place = first_place_within apart place
first_place_in delimited.InvisibleOpaque apart place = first_place delimited.InvisibleOpaque

-- trees in which each opaque subtree has the kind of its place, from a place on
abbrev pub loosened : Place → Forest → Forest
loosened place end = end
loosened place (leaf it rest) = leaf it (loosened (place_behind_leaf it place) rest)
loosened place (node delimiter children rest) =
    node (record delimiter { kind = kind_in children rest place delimiter.kind })
    (loosened (first_place_in (kind_in children rest place delimiter.kind) (is_apart children rest place) place) children)
    (loosened (place_behind delimiter.kind place) rest)
