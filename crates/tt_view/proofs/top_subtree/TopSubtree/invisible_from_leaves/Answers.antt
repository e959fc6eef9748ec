use Rattle.std.proofs.Common.{rules, ◌≡◌, ◌≤◌, ◌++◌, ◌∷◌, [], map, length, ap, sym, ◌∙◌, arith, append_assoc, append-nil}
use Rattle.tt_base.specs.declared.delimiter.DelimiterKind.TheVariants.{Invisible}
use Rattle.tt_base.specs.declared.token_tree.TokenTree.TheVariants as token
use Rattle.tt_base.specs.Forest.{size, flat_root}
use Rattle.tt_base.specs.Siblings.{leaves}
use Rattle.std.specs.Vec.Iter.{into_iter_items}
use Rattle.tt_base.specs.Token.{delimiter}
use Rattle.tt_base.specs.Unflat.{flat_root-injective}
use Rattle.tt_tables.specs.PackFault.{IsPackFault}
use Rattle.tt_tables.specs.Stored.{most_tokens}
use Rattle.tt_view.specs.TreeFault.{under, IsTreeFault}
use Rattle.tt_view.proofs.TreeFaults.{tree_fault, none_left, size-leaves, leaves_list}
use Rattle.tt_view.proofs.top_subtree.TopSubtree.invisible_from_leaves.Goals as goal

pub returns-in_default-clause-err : goal.returns-in_default-clause-err
returns-in_default-clause-err g c =
    let count : c.len.result ≡ length c.args.leaves = search rules in
    omega (arith, size-leaves c.args.leaves, count, c.in_default.ensures)

pub returns-in_err-packed-clause-err : goal.returns-in_err-packed-clause-err
returns-in_err-packed-clause-err g c =
    let d = delimiter Invisible c.args.span c.args.span in
    let ls = c.args.leaves in
    let count : c.in-Ok.len ≡ length ls = search rules in
    let few : size (leaves ls) ≤ most_tokens = omega (arith, size-leaves ls, count, c.in-Ok.ensures) in
    let none : into_iter_items c.loop-leaf.leaf-iterator ≡ [] = none_left _ (sym c.loop-leaf.invariant.2 ∙ (rw c.in-None.is at c.next.ensures.steps).0) in
    let is : c.loop-leaf.tokens.items ≡ flat_root (under d (leaves ls)) =
    sym (append-nil _) ∙ ap (λ rest. c.loop-leaf.tokens.items ++ map token.Leaf rest) (sym none) ∙ c.loop-leaf.invariant.3 ∙ leaves_list d ls _ count in
    let cause : IsPackFault c.loop-leaf.tokens.items c.in_err-packed.field-0.0.fault = search rules in
    let wanting : IsTreeFault (under d (leaves ls)) c.in_err-packed.field-0.0.fault = tree_fault _ _ is few _ cause in
    search rules

pub returns-clause-ok : goal.returns-clause-ok
returns-clause-ok g c =
    let d = delimiter Invisible c.args.span c.args.span in
    let ls = c.args.leaves in
    let count : c.in-Ok.len ≡ length ls = search rules in
    let none : into_iter_items c.loop-leaf.leaf-iterator ≡ [] = none_left _ (sym c.loop-leaf.invariant.2 ∙ (rw c.in-None.is at c.next.ensures.steps).0) in
    let is : c.loop-leaf.tokens.items ≡ flat_root (under d (leaves ls)) =
    sym (append-nil _) ∙ ap (λ rest. c.loop-leaf.tokens.items ++ map token.Leaf rest) (sym none) ∙ c.loop-leaf.invariant.3 ∙ leaves_list d ls _ count in
    let read : c.loop-leaf.tokens.items ≡ flat_root c.in_ok-packed.packed = search rules in
    flat_root-injective _ _ (sym read ∙ is)

pub loop-leaf-preserved : goal.loop-leaf-preserved
loop-leaf-preserved g c =
    let step = rw c.in-Some.is at c.next.ensures.steps in
    let first : into_iter_items c.loop-leaf.leaf-iterator ≡ c.in-Some.leaf ∷ into_iter_items c.next.new.self = step.0 in
    let more : c.push-in-loop-leaf.new.self.items ≡ c.loop-leaf.tokens.items ++ (token.Leaf c.in-Some.leaf ∷ []) = search rules in (
      tt,
      tt,
      omega (arith, step.1, ap length first, c.loop-leaf.invariant.2),
      ap (λ tokens. tokens ++ map token.Leaf (into_iter_items c.next.new.self)) more
          ∙ append_assoc c.loop-leaf.tokens.items (token.Leaf c.in-Some.leaf ∷ []) (map token.Leaf (into_iter_items c.next.new.self))
          ∙ ap (λ leaves. c.loop-leaf.tokens.items ++ map token.Leaf leaves) (sym first)
          ∙ c.loop-leaf.invariant.3,
    )
