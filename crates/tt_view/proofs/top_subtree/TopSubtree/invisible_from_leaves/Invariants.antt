-- The list, and then the leaves to come, are the header and all leaves.
use Rattle.std.proofs.Common.{◌≡◌, ◌∷◌, ◌++◌, length, map}
use Rattle.tt_base.specs.declared.delimiter.DelimiterKind.TheVariants.{Invisible}
use Rattle.tt_base.specs.declared.token_tree.TokenTree.TheVariants as token
use Rattle.tt_base.specs.Forest.{header}
use Rattle.std.specs.Vec.Iter.{into_iter_items, into_iter_len}
use Rattle.tt_base.specs.Token.{delimiter}
use Rattle.tt_view.proofs.top_subtree.TopSubtree.invisible_from_leaves.Given as goal

abbrev pub invariant-loop-leaf : goal.invariant-loop-leaf
invariant-loop-leaf g l =
    (goal.iterator-loop-leaf g).can_next l.leaf-iterator
    × (goal.iterator-loop-leaf g).is_finite l.leaf-iterator
    × (into_iter_len l.leaf-iterator ≡ length (into_iter_items l.leaf-iterator))
    × (l.tokens.items ++ map token.Leaf (into_iter_items l.leaf-iterator) ≡ header (delimiter Invisible l.fn.span l.fn.span) l.len ∷ map token.Leaf l.fn.leaves)
