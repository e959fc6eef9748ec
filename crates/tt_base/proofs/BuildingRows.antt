-- How the calls of a builder change its state, on small examples.
use Rattle.std.proofs.Common.{◌≡◌, ℕ, [], codes, refl, None, is_some, Bool, true, false}
use Rattle.tt_base.specs.declared.delimiter.DelimiterKind.TheVariants.{Parenthesis, Brace, Bracket, Invisible, InvisibleOpaque}
use Rattle.tt_base.specs.declared.leaf.Leaf.{Leaf}
use Rattle.tt_base.specs.declared.punct.Spacing.TheVariants.{Alone, Joint, JointHidden}
use Rattle.tt_base.specs.Token.{delimiter}
use Rattle.tt_base.specs.Forest.{end, leaf, node}
use Rattle.tt_base.proofs.Samples.{span, punct, ident, subtree}
use Rattle.tt_base.specs.Building.{lowest, above, BuilderState, empty_builder, opened, pushed, alone, closed, removed, point_taken, noted, restored, built, built_skipping, open_kinds, tokens_held}

a : Leaf
a = ident (codes "a")

b : Leaf
b = ident (codes "b")

start : BuilderState
start = empty_builder (delimiter Invisible (span 0 0) (span 0 0))

-- whether a point is valid
stands : ℕ → BuilderState → Bool
stands number s = is_some (noted number s.points)

-- point 0; push; point 1; open; push
two_points : BuilderState
two_points = pushed b (opened Parenthesis (span 0 1) (point_taken (pushed a (point_taken start))))

restored_once : stands 1 two_points ≡ true
unfolding two_points start a b stands
restored_once = refl

restored_twice : stands 1 (restored 1 two_points) ≡ true
unfolding two_points start a b stands
restored_twice = refl

restored_first : stands 0 (restored 1 (restored 1 two_points)) ≡ true
unfolding two_points start a b stands
restored_first = refl

second_is_gone : stands 1 (restored 0 (restored 1 (restored 1 two_points))) ≡ false
unfolding two_points start a b stands
second_is_gone = refl

nothing_changes : restored 1 (restored 0 (restored 1 (restored 1 two_points))) ≡ restored 0 (restored 1 (restored 1 two_points))
unfolding two_points start a b
nothing_changes = refl

the_levels_then : (restored 1 two_points).stack ≡ lowest (leaf a end)
unfolding two_points start a b
the_levels_then = refl

-- open, point, close: the point is not valid
closed_over : stands 0 (closed (span 1 1) (point_taken (opened Parenthesis (span 0 1) start))) ≡ false
unfolding start stands
closed_over = refl

-- point, open, push, close, restore: no subtree is open, and the point is valid
before_the_subtree : BuilderState
before_the_subtree = restored 0 (closed (span 1 1) (pushed a (opened Parenthesis (span 0 1) (point_taken start))))

before_it_none_open : open_kinds before_the_subtree.stack ≡ []
unfolding before_the_subtree start a
before_it_none_open = refl

before_it_stands : stands 0 before_the_subtree ≡ true
unfolding before_the_subtree start a stands
before_it_stands = refl

-- open invisible, push a, close, push b, remove: the children are a and b
unwrapped : BuilderState
unwrapped = removed (pushed b (closed (span 1 1) (pushed a (opened Invisible (span 0 1) start))))

two_children : (built unwrapped).children ≡ leaf a (leaf b end)
unfolding unwrapped start a b
two_children = refl

removed_again : removed unwrapped ≡ unwrapped
unfolding unwrapped start a b
removed_again = refl

-- an open clears the mark
opened_behind : (removed (opened Brace (span 0 1) (closed (span 1 1) (opened Invisible (span 0 1) start)))).stack
    ≡ above (lowest (node (delimiter Invisible (span 0 1) (span 1 1)) end end)) Brace (span 0 1) end
unfolding start
opened_behind = refl

-- the last token of a parenthesis becomes alone
plus_alone : alone (subtree Parenthesis (leaf (punct 43 Joint) end)) ≡ subtree Parenthesis (leaf (punct 43 Alone) end)
plus_alone = refl

-- one node is built without the top, two trees are built with it
skipped : (built_skipping (closed (span 1 1) (pushed a (opened Bracket (span 0 1) start)))).delimiter.kind ≡ Bracket
unfolding start a
skipped = refl

not_skipped : (built_skipping (pushed b (closed (span 1 1) (pushed a (opened Bracket (span 0 1) start))))).delimiter.kind ≡ Invisible
unfolding start a b
not_skipped = refl

-- one that is joint hidden does too, and an ident stays
hidden_plus_alone : alone (leaf (punct 43 JointHidden) end) ≡ leaf (punct 43 Alone) end
hidden_plus_alone = refl

ident_alone : alone (leaf a end) ≡ leaf a end
unfolding a
ident_alone = refl

-- the last token of a list of trees, and no other, becomes alone
only_the_last : alone (leaf (punct 43 Joint) (leaf (punct 43 Joint) end)) ≡ leaf (punct 43 Joint) (leaf (punct 43 Alone) end)
only_the_last = refl

-- an ident stays, and a node with nothing inside stays
ident_stays : alone (leaf (punct 43 Joint) (leaf a end)) ≡ leaf (punct 43 Joint) (leaf a end)
unfolding a
ident_stays = refl

empty_stays : alone (leaf (punct 43 Joint) (subtree Brace end)) ≡ leaf (punct 43 Joint) (subtree Brace end)
empty_stays = refl

-- an open subtree counts as one token, and a closed one as many
three_held : tokens_held (pushed b (opened Parenthesis (span 0 1) (pushed a start))).stack ≡ 3
unfolding start a b
three_held = refl

-- a push leaves the mark, and a point does not
mark_stays : (removed (pushed b (closed (span 1 1) (opened Invisible (span 0 1) start)))).stack ≡ lowest (leaf b end)
unfolding start b
mark_stays = refl

point_clears_the_mark : (removed (point_taken (closed (span 1 1) (opened Invisible (span 0 1) start)))).stack ≡ lowest (subtree Invisible end)
unfolding start
point_clears_the_mark = refl

-- an opaque subtree stays too, and its mark is cleared
opaque_closed : BuilderState
opaque_closed = closed (span 1 1) (pushed a (opened InvisibleOpaque (span 0 1) start))

opaque_is_marked : is_some opaque_closed.mark ≡ true
unfolding opaque_closed start a
opaque_is_marked = refl

opaque_stays : removed opaque_closed ≡ record opaque_closed { mark = None }
unfolding opaque_closed start a
opaque_stays = refl

-- a visible node stays
parenthesis_stays : (removed (closed (span 1 1) (opened Parenthesis (span 0 1) start))).stack ≡ lowest (subtree Parenthesis end)
unfolding start
parenthesis_stays = refl

-- no number is given to two points
third_point : (point_taken (restored 0 (point_taken (pushed a (point_taken start))))).taken ≡ 3
unfolding start a
third_point = refl
