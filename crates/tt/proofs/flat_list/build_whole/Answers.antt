use Rattle.std.proofs.Common.{subst, sym, ◌∙◌}
use Rattle.tt.proofs.FlatLists.{counted_all}
use Rattle.tt.proofs.flat_list.build_whole.Goals as goal
use Rattle.tt_view.specs.PackFault.{IsPackFault}

pub returns-in-Ok-clause-ok : goal.returns-in-Ok-clause-ok
returns-in-Ok-clause-ok c = sym (counted_all _ _ _ c.requires.some c.count_below.ensures) ∙ c.in-Ok.ensures.ok

pub returns-in-Err-clause-err : goal.returns-in-Err-clause-err
returns-in-Err-clause-err c =
    subst (λ l. IsPackFault l c.in-Err.field-0.fault) (counted_all _ _ _ c.requires.some c.count_below.ensures) c.in-Err.ensures.fault
