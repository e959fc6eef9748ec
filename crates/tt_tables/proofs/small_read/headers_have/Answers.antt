use Rattle.std.proofs.Common.{◌≡◌, subst, sym, ◌∙◌}
use Rattle.std.proofs.lemmas.List.{take_all}
use Rattle.std.proofs.lemmas.List.Elements.{All-more}
use Rattle.tt_base.specs.declared.delimiter.Subtree.{Subtree}
use Rattle.tt_base.specs.Span.{part_of}
use Rattle.tt_tables.specs.OnePart.{HeadersHave}
use Rattle.tt_tables.proofs.SmallRead.{same_if_not_other}
use Rattle.tt_tables.proofs.small_read.headers_have.Goals as goal

pub loop-header-preserved : goal.loop-header-preserved
loop-header-preserved c =
    let P = λ (it : Subtree). (part_of it.delimiter.open_span ≡ c.args.part.now) × (part_of it.delimiter.close ≡ c.args.part.now) in
    let opening : part_of c.header-item.result.delimiter.open_span ≡ c.args.part.now = sym c.from_span.ensures ∙ same_if_not_other _ _ _ c.ne.ensures c.if-ne.false in
    let closing : part_of c.header-item.result.delimiter.close ≡ c.args.part.now = sym c.from_span-else-ne.ensures ∙ same_if_not_other _ _ _ c.ne-else-ne.ensures c.if-ne-2.false in
    All-more P c.args.headers.now c.loop-header.header-index c.header-item.result c.loop-header-test.true c.loop-header.invariant (subst P c.header-item.is (opening, closing))

pub returns : goal.returns
returns c = λ yes. subst (HeadersHave c.args.part.now) (take_all c.loop-header.header-index c.args.headers.now c.loop-header-test.false) c.loop-header.invariant
