use Rattle.std.proofs.Common.{◌≡◌, ◌<◌, ◌≤◌, ◌^◌, length, Err, IfOk, IfErr, inl, ◌∷◌, ap, sym, subst, ◌∙◌, rules}
use Rattle.tt_base.specs.declared.token_tree.TokenTree.TheVariants as token
use Rattle.tt_base.specs.Forest.{size, flat_root}
use Rattle.tt_tables.specs.Stored.{most_tokens, IsWithinLimits}
use Rattle.tt_tables.specs.PackFault.{IsPackFault}
use Rattle.tt_pack.specs.Packed.{IsTableFault}
use Rattle.tt_pack.proofs.Storing.{no_subtree, refused_list}
use Rattle.tt_pack.proofs.packed.Packed.of_list_with.Goals as goal

pub returns-then-top-below-clause-err : goal.returns-then-top-below-clause-err
returns-then-top-below-clause-err c =
    let top = c.in-Some-Subtree-default.top in
    let below = c.in-Some-Subtree-default.below.now in
    let fits : top.len < 2 ^ 32 = search rules in
    let list : c.args.tokens.now ≡ token.Subtree top ∷ below = c.in-Some-Subtree-default.ensures.cases.0 ∙ ap (λ t. t ∷ below) c.in-Some-Subtree-default.field-0-0-is in
    rw list (no_subtree top below fits (λ parts. search (rules, parts.0, c.if-top-below.true)))

pub returns-in_err-tables-clause-err : goal.returns-in_err-tables-clause-err
returns-in_err-tables-clause-err c =
    let top = c.in-Some-Subtree-default.top in
    let below = c.in-Some-Subtree-default.below.now in
    let fits : top.len < 2 ^ 32 = search rules in
    let list : c.args.tokens.now ≡ token.Subtree top ∷ below = c.in-Some-Subtree-default.ensures.cases.0 ∙ ap (λ t. t ∷ below) c.in-Some-Subtree-default.field-0-0-is in
    let told : IsTableFault below c.in_err-tables.field-0.0 = search rules in
    let is : c.from_residual.result ≡ Err c.in_err-tables.field-0.0 = search rules in
    rw is rw list (refused_list top below c.if-top-below.false fits _ (inl told))

pub of_numbered-requires-clause-counted : goal.of_numbered-requires-clause-counted
of_numbered-requires-clause-counted c = c.if-top-below.false ∙ ap length (sym c.in_ok-tables.ensures.ok.same)

pub returns-clause-ok : goal.returns-clause-ok
returns-clause-ok c =
    let top = c.in-Some-Subtree-default.top in
    let below = c.in-Some-Subtree-default.below.now in
    let list : c.args.tokens.now ≡ token.Subtree top ∷ below = c.in-Some-Subtree-default.ensures.cases.0 ∙ ap (λ t. t ∷ below) c.in-Some-Subtree-default.field-0-0-is in
    subst (λ l. IfOk c.of_numbered.result (λ stored. (l ≡ flat_root stored) × (size stored.children ≤ most_tokens) × IsWithinLimits stored))
    (ap (λ l. token.Subtree top ∷ l) c.in_ok-tables.ensures.ok.same ∙ sym list) c.of_numbered.ensures.ok

pub returns-clause-err : goal.returns-clause-err
returns-clause-err c =
    let top = c.in-Some-Subtree-default.top in
    let below = c.in-Some-Subtree-default.below.now in
    let list : c.args.tokens.now ≡ token.Subtree top ∷ below = c.in-Some-Subtree-default.ensures.cases.0 ∙ ap (λ t. t ∷ below) c.in-Some-Subtree-default.field-0-0-is in
    subst (λ l. IfErr c.of_numbered.result (IsPackFault l)) (ap (λ l. token.Subtree top ∷ l) c.in_ok-tables.ensures.ok.same ∙ sym list) c.of_numbered.ensures.err
