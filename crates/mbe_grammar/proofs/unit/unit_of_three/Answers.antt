-- Two puncts are glued without a third that makes no operator with them.
use Rattle.std.proofs.Common.{rules, Some, ◌∙◌, sym}
use Rattle.tt.specs.FirstKinds.{IsFirstKind}
use Rattle.tt.specs.Iters.{rest_of}
use Rattle.tt.specs.Types.TokenKind.TheVariants as kind
use Rattle.mbe_grammar.proofs.UnitKinds.{two_of_three}
use Rattle.mbe_grammar.proofs.unit.unit_of_three.Goals as goal

pub returns-else-is_glued_three : goal.returns-else-is_glued_three
returns-else-is_glued_three c one two is_one is_two =
    let shown : IsFirstKind (rest_of c.args.behind) (Some (kind.Punct c.in-Some-Punct.third c.in-Some-Punct.field-0-1)) = search rules in
    c.unit_of_two.ensures one two is_one is_two
    ∙ two_of_three (rest_of c.args.behind) _ c.args.first c.args.second c.in-Some-Punct.third one two is_one is_two shown (sym c.is_glued_three.ensures ∙ c.if-is_glued_three.false)
