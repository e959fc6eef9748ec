-- What a builder of a tree holds, and how each of its calls changes it.
use Rattle.std.specs.Prelude.{◌≡◌, ◌⊎◌, ◌<◌, ◌≤◌, ℕ, zero, suc, ◌+◌, List, [], ◌∷◌, ◌++◌, if◌then◌else◌, nat_le, nat_eq, filter, Option, Some, None}
use Rattle.tt_base.specs.declared.delimiter.Delimiter.{Delimiter}
use Rattle.tt_base.specs.declared.delimiter.DelimiterKind.{DelimiterKind}
use Rattle.tt_base.specs.declared.fault.TtFault.{TtFault}
use Rattle.tt_base.specs.declared.fault.TtFault.TheVariants.{Memory, TooManyTokens}
use Rattle.tt_base.specs.declared.leaf.Leaf.{Leaf}
use Rattle.tt_base.specs.declared.leaf.Leaf.TheVariants as leaf_of
use Rattle.tt_base.specs.declared.punct.Spacing.TheVariants.{Alone}
use Rattle.tt_base.specs.declared.span.Span.{Span}
use Rattle.tt_base.specs.Forest.{Forest, end, leaf, node, Root, size, join}
use Rattle.tt_base.specs.OneRoot.{is_invisible, one_root}
use Rattle.tt_base.specs.Token.{delimiter}

-- the levels: the lowest one has trees; each open subtree, the innermost last, has a kind, an open span and its trees so far
pub data Stack : Type 0 where
  lowest : Forest → Stack
  above : Stack → DelimiterKind → Span → Forest → Stack

-- the trees of the innermost level
abbrev pub innermost : Stack → Forest
innermost (lowest trees) = trees
innermost (above outer kind open_span trees) = trees

-- the trees of the lowest level
abbrev pub bottom : Stack → Forest
bottom (lowest trees) = trees
bottom (above outer kind open_span trees) = bottom outer

-- the levels with more trees at the end of the innermost one
abbrev pub append : Forest → Stack → Stack
append more (lowest trees) = lowest (join trees more)
append more (above outer kind open_span trees) = above outer kind open_span (join trees more)

-- the number of open subtrees
abbrev pub depth : Stack → ℕ
depth (lowest trees) = 0
depth (above outer kind open_span trees) = suc (depth outer)

-- the kinds of the open subtrees, innermost first
abbrev pub open_kinds : Stack → List DelimiterKind
open_kinds (lowest trees) = []
open_kinds (above outer kind open_span trees) = kind ∷ open_kinds outer

-- the number of tokens held: those of all levels, and a header for each open subtree
abbrev pub tokens_held : Stack → ℕ
tokens_held (lowest trees) = size trees
tokens_held (above outer kind open_span trees) = tokens_held outer + suc (size trees)

-- the levels without the innermost
abbrev pub outer_of : Stack → Stack
outer_of (lowest trees) = lowest trees
outer_of (above outer kind open_span trees) = outer

-- the innermost subtree becomes the last tree of the level below it
abbrev pub close_innermost : Span → Stack → Stack
close_innermost close_span (lowest trees) = lowest trees
close_innermost close_span (above outer kind open_span trees) = append (node (delimiter kind open_span close_span) trees end) outer

-- the number of trees, without the trees inside them
abbrev pub tree_count : Forest → ℕ
tree_count end = 0
tree_count (leaf it rest) = suc (tree_count rest)
tree_count (node delimiter children rest) = suc (tree_count rest)

-- the same trees with the children of one in its place: the tree of that number, if it is an invisible node
abbrev pub unwrap : ℕ → Forest → Forest
unwrap k end = end
unwrap zero (leaf it rest) = leaf it rest
unwrap zero (node delimiter children rest) = if is_invisible delimiter.kind then join children rest else node delimiter children rest
unwrap (suc k) (leaf it rest) = leaf it (unwrap k rest)
unwrap (suc k) (node delimiter children rest) = node delimiter children (unwrap k rest)

-- the same in the innermost level
abbrev pub unwrap_innermost : ℕ → Stack → Stack
unwrap_innermost k (lowest trees) = lowest (unwrap k trees)
unwrap_innermost k (above outer kind open_span trees) = above outer kind open_span (unwrap k trees)

-- a leaf, alone if it is a punct
abbrev pub leaf_alone : Leaf → Leaf
leaf_alone (leaf_of.Literal literal) = leaf_of.Literal literal
leaf_alone (leaf_of.Punct punct) = leaf_of.Punct (record punct { spacing = Alone })
leaf_alone (leaf_of.Ident ident) = leaf_of.Ident ident

-- the same trees with the last flat token alone, if it is a punct
abbrev pub alone : Forest → Forest
alone end = end
alone (leaf it end) = leaf (leaf_alone it) end
alone (leaf it (leaf next rest)) = leaf it (alone (leaf next rest))
alone (leaf it (node next children rest)) = leaf it (alone (node next children rest))
alone (node delimiter children end) = node delimiter (alone children) end
alone (node delimiter children (leaf next rest)) = node delimiter children (alone (leaf next rest))
alone (node delimiter children (node next inner rest)) = node delimiter children (alone (node next inner rest))

-- a restore point: its number, and the levels when it was taken
pub record Point : Type 0 where
  pub number : ℕ
  pub stack : Stack

-- the delimiter of the top; the levels; the number of the marked tree in the innermost level; the valid restore points, oldest first; the
-- number of points that were ever taken
pub record BuilderState : Type 0 where
  pub top : Delimiter
  pub stack : Stack
  pub mark : Option ℕ
  pub points : List Point
  pub taken : ℕ

-- a new builder
abbrev pub empty_builder : Delimiter → BuilderState
empty_builder top = record { top = top; stack = lowest end; mark = None; points = []; taken = 0 }

-- a subtree is opened, and the mark is cleared
abbrev pub opened : DelimiterKind → Span → BuilderState → BuilderState
opened kind open_span s = record s { stack = above s.stack kind open_span end; mark = None }

-- trees are appended
abbrev pub extended : Forest → BuilderState → BuilderState
extended trees s = record s { stack = append trees s.stack }

-- a leaf is appended
abbrev pub pushed : Leaf → BuilderState → BuilderState
pushed it = extended (leaf it end)

-- a level is above the lowest one
abbrev pub IsAbove : Stack → Type 0
IsAbove (lowest trees) = ⊥
IsAbove (above outer kind open_span trees) = Unit {0}

-- a subtree is open
abbrev pub IsOpen : BuilderState → Type 0
IsOpen s = IsAbove s.stack

-- the points with at most as many levels as these
abbrev pub points_within : Stack → List Point → List Point
points_within stack = filter (λ point. nat_le (depth point.stack) (depth stack))

-- the points with at most as many tokens as these levels hold
abbrev pub points_before : Stack → List Point → List Point
points_before stack = filter (λ point. nat_le (tokens_held point.stack) (tokens_held stack))

-- the innermost subtree is closed and marked; the points that were taken while it was open become invalid
abbrev pub closed : Span → BuilderState → BuilderState
closed close_span s =
    record s {
      stack = close_innermost close_span s.stack;
      mark = Some (tree_count (innermost (outer_of s.stack)));
      points = points_within (outer_of s.stack) s.points;
    }

-- the levels with the children of the marked tree in its place, if it is an invisible node
abbrev pub without_mark : Option ℕ → Stack → Stack
without_mark None stack = stack
without_mark (Some k) stack = unwrap_innermost k stack

-- the children take the place of the marked tree, if it is an invisible node; the mark is cleared in any case
abbrev pub removed : BuilderState → BuilderState
removed s = record s { stack = without_mark s.mark s.stack; mark = None }

-- a point is taken, and the mark is cleared
abbrev pub point_taken : BuilderState → BuilderState
point_taken s =
    record s {
      mark = None;
      points = s.points ++ record { number = s.taken; stack = s.stack } ∷ [];
      taken = s.taken + 1;
    }

-- the levels of the point of that number, if it is valid
abbrev pub noted : ℕ → List Point → Option Stack
noted number [] = None
noted number (point ∷ points) = if nat_eq point.number number then Some point.stack else noted number points

-- the state goes back to those levels, if there are any: the mark is cleared, and points with more tokens become invalid
abbrev pub back_to : Option Stack → BuilderState → BuilderState
back_to None s = s
back_to (Some stack) s = record s { stack = stack; mark = None; points = points_before stack s.points }

-- the state goes back to the point of that number, if it is valid
abbrev pub restored : ℕ → BuilderState → BuilderState
restored number s = back_to (noted number s.points) s

-- the tree that the builder returns if no subtree is open
abbrev pub built : BuilderState → Root
built s = record { delimiter = s.top; children = bottom s.stack }

-- the second root if there is one, otherwise the first
abbrev pub root_or : Root → Option Root → Root
root_or other None = other
root_or other (Some root) = root

-- the tree without the top, if the top holds exactly one node; otherwise the same as `built`
abbrev pub built_skipping : BuilderState → Root
built_skipping s = root_or (built s) (one_root (bottom s.stack))

-- the largest number of tokens that a builder holds
abbrev pub most_held : ℕ
most_held = 4294967295

-- there is room for `more` tokens
abbrev pub HasRoom : ℕ → BuilderState → Type 0
HasRoom more s = tokens_held s.stack + more ≤ most_held

-- why the builder refuses `more` tokens: there are too many, or otherwise memory runs out
abbrev pub IsGrowthFault : ℕ → BuilderState → TtFault → Type 0
IsGrowthFault more s fault = ((fault ≡ Memory) × HasRoom more s) ⊎ ((fault ≡ TooManyTokens) × (most_held < tokens_held s.stack + more))
