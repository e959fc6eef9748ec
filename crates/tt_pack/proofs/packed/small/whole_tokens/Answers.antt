use Rattle.std.proofs.Common.{◌≡◌, ◌++◌, ◌∷◌, [], take, get_or, ap, sym, ◌∙◌, arith}
use Rattle.std.proofs.lemmas.List.{take_more}
use Rattle.std.proofs.lemmas.Option.{get_or_from_slice_get}
use Rattle.tt_base.specs.declared.token_tree.TokenTree.TheVariants as token
use Rattle.tt_pack.proofs.packed.small.whole_tokens.Goals as goal

pub loop-place-preserved : goal.loop-place-preserved
loop-place-preserved c =
    let below = c.args.below.now in
    let place = c.loop-place.place in
    let it = c.in_ok-token.field-0 in
    let read : get_or below place it ≡ it = get_or_from_slice_get below place it it c.in_ok-token.ensures in
    c.in_ok-push-2.ensures.items ∙ ap (λ l. l ++ it ∷ []) c.loop-place.invariant
    ∙ ap (λ l. token.Subtree c.args.header ∷ l) (ap (λ t. take place below ++ t ∷ []) (sym read) ∙ sym (take_more below place it (omega (arith, c.loop-place-test.true, c.len-place-end.ensures))))
