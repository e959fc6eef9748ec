use Rattle.std.proofs.Common.{inr, subst}
use Rattle.app_c.proofs.Results.{if_ok, if_err}
use Rattle.app_c.proofs.tokens.tokens_of_bytes.Goals as goal
use Rattle.app_c.specs.Tokens.{AreTokensOf}

pub returns-clause-ok : goal.returns-clause-ok
returns-clause-ok c =
    if_ok c.tokens_of.result
    (λ it are.
    (c.in_ok-tree.tree, c.in_ok-tree.ensures.ok, subst (λ trees. AreTokensOf trees it.bytes.items it.words.items) c.token_trees.ensures are))
    c.tokens_of.ensures.ok

pub returns-clause-err : goal.returns-clause-err
returns-clause-err c = if_err c.tokens_of.result (λ failure memory. inr memory) c.tokens_of.ensures.err
