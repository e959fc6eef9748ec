use Rattle.std.proofs.Common.{inr}
use Rattle.app_c.proofs.Results.{if_ok, if_err}
use Rattle.app_c.proofs.text.bytes_of_text.Goals as goal

pub returns-clause-ok : goal.returns-clause-ok
returns-clause-ok c = if_ok c.bytes_of_tree.result (λ bytes are. (c.in_ok-tree.tree, c.in_ok-tree.ensures.ok, are)) c.bytes_of_tree.ensures.ok

pub returns-clause-err : goal.returns-clause-err
returns-clause-err c = if_err c.bytes_of_tree.result (λ failure none. inr (c.in_ok-tree.tree, c.in_ok-tree.ensures.ok, none)) c.bytes_of_tree.ensures.err
