use Rattle.std.proofs.Common.{◌≡◌, ap, subst, sym, ◌∙◌}
use Rattle.std.proofs.lemmas.List.{take_all}
use Rattle.std.proofs.lemmas.List.Elements.{All-more}
use Rattle.tt_base.specs.declared.leaf.Leaf.{Leaf}
use Rattle.tt_base.specs.Span.{part_of}
use Rattle.tt_base.specs.Token.{leaf_span}
use Rattle.tt_tables.specs.OnePart.{LeavesHave}
use Rattle.tt_tables.proofs.SmallRead.{same_if_not_other}
use Rattle.tt_tables.proofs.small_read.leaves_have.Goals as goal

pub loop-leaf-preserved : goal.loop-leaf-preserved
loop-leaf-preserved c =
    let P = λ (it : Leaf). part_of (leaf_span it) ≡ c.args.part.now in
    let here : part_of (leaf_span c.leaf-item.result) ≡ c.args.part.now = sym (c.from_span.ensures ∙ ap part_of c.span.ensures) ∙ same_if_not_other _ _ _ c.ne.ensures c.if-ne.false in
    All-more P c.args.leaves.now c.loop-leaf.leaf-index c.leaf-item.result c.loop-leaf-test.true c.loop-leaf.invariant (subst P c.leaf-item.is here)

pub returns : goal.returns
returns c = λ yes. subst (LeavesHave c.args.part.now) (take_all c.loop-leaf.leaf-index c.args.leaves.now c.loop-leaf-test.false) c.loop-leaf.invariant
