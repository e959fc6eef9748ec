use Rattle.std.proofs.Common.{inr}
use Rattle.app_c.proofs.Results.{if_ok, if_err}
use Rattle.app_c.proofs.text.text_of_bytes.Goals as goal

pub returns-clause-ok : goal.returns-clause-ok
returns-clause-ok c = if_ok c.text_of_tree.result (λ text is. (c.in_ok-tree.tree, c.in_ok-tree.ensures.ok, is)) c.text_of_tree.ensures.ok

pub returns-clause-err : goal.returns-clause-err
returns-clause-err c = if_err c.text_of_tree.result (λ failure none. inr (c.in_ok-tree.tree, c.in_ok-tree.ensures.ok, none)) c.text_of_tree.ensures.err
