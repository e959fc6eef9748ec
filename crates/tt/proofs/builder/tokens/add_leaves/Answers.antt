use Rattle.std.proofs.Common.{◌≤◌, ◌<◌, ◌+◌, suc, inl, inr, length, map, refl, arith, ap, length-append}
use Rattle.std.proofs.lemmas.List.{length-map}
use Rattle.tt_base.specs.declared.token_tree.TokenTree.TheVariants as token
use Rattle.tt_tables.specs.Held.{whole}
use Rattle.tt.proofs.builder.tokens.add_leaves.Goals as goal

pub returns-then-len-clause-fault : goal.returns-then-len-clause-fault
returns-then-len-clause-fault g c =
    let at = c.loop-leaf.invariant in
    let full : 4294967295 < length c.args.held.now + suc (length c.loop-leaf.yielded) =
    omega (arith, c.len.ensures, ap length at.2, length-append c.args.held.now (map whole (map token.Leaf c.loop-leaf.yielded)), length-map (map token.Leaf c.loop-leaf.yielded) whole, length-map c.loop-leaf.yielded token.Leaf, c.if-len.true) in
    (c.loop-leaf.yielded, c.in-Some.leaf, c.next.new.self, (c.loop-leaf.leaf-iterator, rw c.into_iter-leaf-iterator.ensures.into_iter_gives at c.loop-leaf.yielded_by, rw c.in-Some.is at c.next.ensures.steps), inr (refl, full))

pub returns-then-is_err-clause-fault : goal.returns-then-is_err-clause-fault
returns-then-is_err-clause-fault g c =
    let at = c.loop-leaf.invariant in
    let room : length c.args.held.now + suc (length c.loop-leaf.yielded) ≤ 4294967295 =
    omega (arith, c.len.ensures, ap length at.2, length-append c.args.held.now (map whole (map token.Leaf c.loop-leaf.yielded)), length-map (map token.Leaf c.loop-leaf.yielded) whole, length-map c.loop-leaf.yielded token.Leaf, c.if-len.false) in
    (c.loop-leaf.yielded, c.in-Some.leaf, c.next.new.self, (c.loop-leaf.leaf-iterator, rw c.into_iter-leaf-iterator.ensures.into_iter_gives at c.loop-leaf.yielded_by, rw c.in-Some.is at c.next.ensures.steps), inl (refl, room))
