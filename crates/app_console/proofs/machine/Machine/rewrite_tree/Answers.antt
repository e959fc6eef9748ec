use Rattle.std.proofs.Common.{rules}
use Rattle.std.proofs.lemmas.Result.{IfErr-weaker, on_ok_weaker}
use Rattle.app_console.proofs.Rewriting.{actions_are, actions_refused}
use Rattle.app_console.proofs.machine.Machine.rewrite_tree.Goals as goal

pub returns-clause-ok : goal.returns-clause-ok
returns-clause-ok c =
    on_ok_weaker c.transform_tt.result
    (actions_are _ (λ p. p.1.now) (λ p. p.0.now) (λ p x y q k. search rules) _ c.args.tree.now c.transform_tt.new.tree) c.transform_tt.ensures.ok

pub returns-clause-fault : goal.returns-clause-fault
returns-clause-fault c =
    IfErr-weaker c.transform_tt.result _ _
    (actions_refused _ (λ p. p.1.now) (λ p. p.0.now) (λ p x y q k. search rules) _ c.args.tree.now) c.transform_tt.ensures.fault
