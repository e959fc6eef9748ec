use Rattle.std.proofs.Common.{◌≡◌, ◌∙◌, ◌+◌, ◌++◌, ◌∷◌, [], ap, arith, get_or, map, sym, take}
use Rattle.std.proofs.lemmas.List.{take_all, take_more}
use Rattle.std.specs.Prelude.{string_bytes}
use Rattle.expand_text.specs.Expecting.{part_added, parts_named}
use Rattle.expand_text.proofs.Naming.{part_named}
use Rattle.expand_text.proofs.expecting.parts_named.Goals as goal
use Rattle.mbe_rules.specs.declared.macro_rules.ArmPart.{ArmPart}
use Rattle.mbe_rules.specs.Waiting.{part_in}

pub loop-part-preserved : goal.loop-part-preserved
loop-part-preserved c arms are =
    let parts = c.args.parts.now in
    let index = c.loop-part.part-index in
    let other : ArmPart = record { arm = 0; part = 0 } in
    let part = get_or parts index other in
    let added : map string_bytes c.add_part.new.texts.items ≡ part_added (map string_bytes c.loop-part.texts.items) part.arm (part_in arms part.arm part.part) =
    c.in_ok-add_part.ensures arms are in
    added ∙ ap (λ texts. part_added texts part.arm (part_in arms part.arm part.part)) (c.loop-part.invariant arms are)
    ∙ sym (part_named arms (take index parts) part) ∙ ap (parts_named arms) (sym (take_more parts index other c.loop-part-test.true))

pub returns : goal.returns
returns c arms are =
    c.loop-part.invariant arms are ∙ ap (parts_named arms) (take_all c.loop-part.part-index c.args.parts.now (omega (arith, c.loop-part-test.false)))
