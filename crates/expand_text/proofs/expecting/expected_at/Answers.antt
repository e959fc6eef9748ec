use Rattle.std.proofs.Common.{rules, ◌≡◌, ◌∙◌, codes, map, ap}
use Rattle.std.specs.List.{join_by}
use Rattle.std.specs.Prelude.{string_bytes}
use Rattle.tt.specs.Iters.{rest_of}
use Rattle.expand_text.specs.Expecting.{parts_named}
use Rattle.expand_text.proofs.Alternatives.{joined}
use Rattle.expand_text.proofs.expecting.expected_at.Goals as goal
use Rattle.mbe_rules.specs.Waiting.{AreWaitingIn}

pub returns : goal.returns
returns c arms are =
    let parts = c.in_ok-parts.parts.items in
    let texts = c.in_ok-texts.texts.items in
    let waits : AreWaitingIn arms 0 (rest_of c.args.input) c.args.place parts = c.in_ok-parts.ensures arms are in
    let named : map string_bytes texts ≡ parts_named arms c.deref.result.now = c.in_ok-texts.ensures arms are in
    let same : c.deref.result.now ≡ parts = search rules in
    let written : c.in_ok-new.field-0 ≡ join_by string_bytes (codes " or ") texts = search rules in
    (parts, waits, written ∙ joined (codes " or ") texts ∙ ap (join_by (λ text. text) (codes " or ")) (named ∙ ap (parts_named arms) same))
