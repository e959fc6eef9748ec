-- The leaves that the iterator returned are appended.
use Rattle.std.proofs.Common.{◌≡◌, ◌≤◌, ◌++◌, length, map}
use Rattle.tt_base.specs.declared.token_tree.TokenTree.TheVariants as token
use Rattle.tt_tables.specs.Held.{whole}
use Rattle.tt.proofs.builder.tokens.add_leaves.Given as goal

abbrev pub invariant-loop-leaf : goal.invariant-loop-leaf
invariant-loop-leaf g l =
    (goal.iterator-loop-leaf g).can_next l.leaf-iterator
    × (goal.iterator-loop-leaf g).is_finite l.leaf-iterator
    × (l.held ≡ l.fn.held ++ map whole (map token.Leaf l.yielded))
    × (length l.held ≤ 4294967295)
