use Rattle.app_c.proofs.Written.{is_text}
use Rattle.app_c.proofs.text.text_of_tree.Goals as goal

pub returns-in-Ok-clause-ok : goal.returns-in-Ok-clause-ok
returns-in-Ok-clause-ok c = is_text _ _ _ c.token_trees.ensures c.in-Ok.ensures.writable c.in-Ok.ensures.layout c.in-Ok.ensures.spells
