use Rattle.std.proofs.Common.{◌∷◌, ◌<◌, ◌^◌, ap, ◌∙◌, rules}
use Rattle.tt_base.proofs.CutLists.{one_subtree_iff}
use Rattle.tt_base.proofs.whole.is_one_subtree.Goals as goal

pub returns-then-top-below : goal.returns-then-top-below
returns-then-top-below c =
    let fits : c.in-Some-Subtree-default.top.len < 2 ^ 32 = search rules in
    let one = one_subtree_iff c.in-Some-Subtree-default.top c.in-Some-Subtree-default.below.now fits in
    let list = c.in-Some-Subtree-default.ensures.cases.0 ∙ ap (λ t. t ∷ c.in-Some-Subtree-default.below.now) c.in-Some-Subtree-default.field-0-0-is in
    rw list (λ impossible. cc impossible, λ whole. absurd (c.if-top-below.true (one.0 whole).0))

pub returns : goal.returns
returns c =
    let fits : c.in-Some-Subtree-default.top.len < 2 ^ 32 = search rules in
    let one = one_subtree_iff c.in-Some-Subtree-default.top c.in-Some-Subtree-default.below.now fits in
    let list = c.in-Some-Subtree-default.ensures.cases.0 ∙ ap (λ t. t ∷ c.in-Some-Subtree-default.below.now) c.in-Some-Subtree-default.field-0-0-is in
    let whole = c.in_ok-is_whole.ensures in
    rw list (λ yes. one.1 (c.if-top-below.false, whole.0 yes), λ is. whole.1 (one.0 is).1)
