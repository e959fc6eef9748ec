use Rattle.std.proofs.Common.{drop, ap, ◌∙◌, arith, length-drop}
use Rattle.std.proofs.lemmas.List.{take_all}
use Rattle.tt_pack.proofs.KindDecoded.{kind_decoded_at}
use Rattle.tt_pack.proofs.kind_reader.KindReader.decode_here.Goals as goal

pub returns-then-visit_common_token : goal.returns-then-visit_common_token
returns-then-visit_common_token c =
    kind_decoded_at c.args.self.now c.args.offset c.visit_common_token.new.visitor _ c.requires.new
    (take_all _ _ (omega (arith, length-drop c.args.offset c.bytes-bytes.result.now)) ∙ ap (drop c.args.offset) c.bytes-bytes.ensures.value)
    (c.visit_common_token.ensures.visits c.if-visit_common_token.true)
