use Rattle.std.proofs.Common.{◌≡◌, take, set, get_or, ap, sym, ◌∙◌, arith}
use Rattle.tt_base.specs.declared.span.ErasedFileAstId.{ErasedFileAstId}
use Rattle.tt_base.specs.declared.span.SpanPart.{SpanPart}
use Rattle.tt_tables.specs.AstIds.{part_with_id, parts_with_ids}
use Rattle.tt_pack.proofs.PutIds.{no_ids, put_next}
use Rattle.tt_pack.proofs.packed.ids.put_ids.Goals as goal

pub loop-index-init : goal.loop-index-init
loop-index-init c = sym (no_ids c.args.parts.now)

pub loop-index-preserved : goal.loop-index-preserved
loop-index-preserved c =
    let ids = c.args.ids.now in
    let parts = c.args.parts.now in
    let index = c.loop-index.index in
    let are : c.loop-index.parts ≡ parts_with_ids (take index ids) parts = c.loop-index.invariant in
    let id : ErasedFileAstId = record { 0 = 0 } in
    let none : SpanPart = record { anchor = record { file_id = record { 0 = 0 }; ast_id = record { 0 = 0 } }; ctx = record { 0 = 0 } } in
    ap (set c.loop-index.parts index) c.with_id.ensures
    ∙ ap (λ l. set l index (part_with_id (get_or ids index id) (get_or l index none))) are
    ∙ put_next ids parts index id none (omega (arith, c.requires, c.loop-index-test.true)) (omega (arith, c.loop-index-test.true))
